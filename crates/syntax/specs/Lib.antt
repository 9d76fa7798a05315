pub mod Cursors
pub mod Records
pub mod Rooms
