pub mod GainRange
