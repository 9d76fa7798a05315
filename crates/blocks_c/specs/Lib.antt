pub mod Packed
pub mod Flat
