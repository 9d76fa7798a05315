pub mod Items
pub mod Bsid
pub mod Widths
pub mod Loudness
pub mod Sixteen
