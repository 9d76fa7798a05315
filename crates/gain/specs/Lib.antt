pub mod Factor
pub mod Range
pub mod Gains
pub mod Examples
pub mod Parts
