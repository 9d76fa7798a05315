pub mod Bins
pub mod Edges
pub mod Limits
pub mod Neighbours
pub mod Rule
pub mod Stepped
