pub mod Acted
pub mod Sets
pub mod Mantissas
pub mod Allocating
pub mod Derivations
pub mod Derives
