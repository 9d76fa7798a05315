pub mod Readings
pub mod Passing
pub mod Finding
