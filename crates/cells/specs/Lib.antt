pub mod Names
pub mod Cells
