pub mod Masks
pub mod Blocks
pub mod StepLaws
