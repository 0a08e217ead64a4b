pub mod Places
pub mod Moves
pub mod Lines
pub mod Transfer
