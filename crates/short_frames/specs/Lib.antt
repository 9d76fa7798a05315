pub mod ShortFrames
pub mod Tested
