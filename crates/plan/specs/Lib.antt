pub mod Plan
pub mod Taken
