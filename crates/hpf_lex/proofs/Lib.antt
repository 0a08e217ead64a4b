pub mod Words
pub mod Lines
pub mod Lexemes
mod Rows
pub mod Marks
pub mod Parts
pub mod Order
pub mod Longest
pub mod Cuts
pub mod Spelled
pub mod Numerals
pub mod Proper
pub mod OneLines
