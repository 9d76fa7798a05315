pub mod Strategies
pub mod Table
