pub mod Blocks
pub mod Frames
pub mod Shapes
pub mod Steps
