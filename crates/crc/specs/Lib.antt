pub mod Crc
pub mod Checked
pub mod Table
pub mod Bytes
