pub mod Answer
pub mod Cursors
