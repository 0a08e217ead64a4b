pub mod Weights
pub mod Grown
pub mod ArrayNames
pub mod Alike
pub mod OneForm
pub mod Staged
pub mod Placed
pub mod Formed
pub mod Filed
pub mod Verdicts
pub mod Decisions
mod Seen
