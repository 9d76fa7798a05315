pub mod Following
pub mod Walks
