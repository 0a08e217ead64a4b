pub mod Divisions
pub mod Members
pub mod Ends
pub mod Rows
