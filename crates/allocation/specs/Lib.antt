pub mod State
pub mod Coded
pub mod Memo
