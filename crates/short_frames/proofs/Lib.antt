pub mod ShortFrames
pub mod Sizes
