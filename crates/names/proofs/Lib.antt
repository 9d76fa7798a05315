pub mod Bools
pub mod Rows
pub mod RoleLaws
pub mod Orders
