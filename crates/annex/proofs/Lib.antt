pub mod Unkept
pub mod Tails
pub mod Gives
pub mod Header
pub mod Edges
