pub mod Statuses
pub mod Ends
pub mod Names
pub mod StatusText
