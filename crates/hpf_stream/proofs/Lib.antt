pub mod SoFar
pub mod Stopped
pub mod Answered
