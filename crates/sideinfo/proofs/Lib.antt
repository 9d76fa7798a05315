pub mod BlockLaws
pub mod FrameLaws
pub mod StepLaws
