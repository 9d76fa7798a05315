pub mod SetWord
pub mod SetWords
pub mod Listed
