pub mod Xor
pub mod Linear
pub mod Entries
pub mod Bytes
pub mod Remainders
pub mod Frame
pub mod Vector
