pub mod Unwrapped
pub mod Differences
pub mod Unclamped
