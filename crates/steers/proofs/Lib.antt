pub mod Blinds
pub mod Follows
pub mod Chosen
pub mod Theorem
pub mod Elements
pub mod Writing
pub mod Closing
