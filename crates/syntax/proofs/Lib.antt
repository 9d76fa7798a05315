pub mod Recording
pub mod Returned
pub mod Rooms
pub mod Slices
