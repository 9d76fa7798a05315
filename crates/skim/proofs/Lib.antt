pub mod BitTables
pub mod SkimLaws
