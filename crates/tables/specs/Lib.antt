pub mod BitAllocation
pub mod Bands
pub mod Neighbours
pub mod Small
pub mod Steps
