pub mod NoBits
pub mod SlotSums
