pub mod Hybrid
pub mod Outcomes
