pub mod Counted
pub mod Outcomes
