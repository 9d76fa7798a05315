pub mod Eight
pub mod Lengths
pub mod Parts
