pub mod Adds
pub mod Decimals
pub mod Signs
