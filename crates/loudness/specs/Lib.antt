pub mod Loudness
pub mod Sixteen
