pub mod Mantissas
pub mod Tally
pub mod Outcomes
