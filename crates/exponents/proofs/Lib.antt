pub mod ExpLaws
pub mod SetLaws
pub mod Unmet
pub mod Edges
