pub mod NoBits
pub mod Sections
pub mod Sums
pub mod Unused
pub mod Zeros
