pub mod Along
pub mod Bounds
