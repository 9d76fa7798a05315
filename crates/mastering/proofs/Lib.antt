pub mod Rewriting
pub mod Setting
pub mod Entry
