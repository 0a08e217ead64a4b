pub mod Blocks
pub mod Owned
pub mod Refusals
pub mod Rows
pub mod Spreads
pub mod Sharing
pub mod Alike
