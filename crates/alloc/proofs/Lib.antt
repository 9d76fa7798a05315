pub mod Carry
pub mod Codes
pub mod Edges
pub mod Lists
pub mod LogSums
pub mod Signs
