pub mod Numbers
pub mod Options
pub mod Taken
pub mod Lines
mod Rows
