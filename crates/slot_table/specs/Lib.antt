pub mod SlotTable
