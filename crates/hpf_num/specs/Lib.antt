pub mod Limits
pub mod Run
pub mod Division
pub mod Runs
