pub mod Exponents
pub mod Set
pub mod SetRead
