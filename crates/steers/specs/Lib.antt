pub mod Blind
pub mod Steering
pub mod Writing
pub mod Closing
