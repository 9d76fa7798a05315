pub mod Pointing
pub mod Whole
