pub mod Unwrapped
pub mod Unclamped
