pub mod Command
pub mod Refusal
pub mod Given
pub mod Table
pub mod Words
