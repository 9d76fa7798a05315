pub mod StateLaws
pub mod MemoLaws
pub mod Unmet
