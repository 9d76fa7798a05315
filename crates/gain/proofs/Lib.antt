pub mod Exact
pub mod Below
pub mod Words
pub mod Named
pub mod Ordered
pub mod Lowest
pub mod Worked
