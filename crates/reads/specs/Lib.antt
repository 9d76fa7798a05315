pub mod Reads
pub mod Taking
