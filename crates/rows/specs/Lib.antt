pub mod Syntax
pub mod Rows
pub mod Steps
pub mod Standing
pub mod Unkept
pub mod Kinds
