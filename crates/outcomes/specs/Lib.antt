pub mod Outcomes
pub mod Suffices
