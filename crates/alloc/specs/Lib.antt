pub mod Allocation
pub mod Levels
pub mod LogBound
pub mod Premises
pub mod Shares
