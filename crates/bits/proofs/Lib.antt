pub mod BitLaws
pub mod Loads
