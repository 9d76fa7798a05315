pub mod Tree
pub mod Run
pub mod Room
pub mod Records
pub mod Frame
pub mod CommonReading
