pub mod Limits
pub mod Sums
pub mod Owner
pub mod Condition
pub mod Axis
pub mod Spread
pub mod Shares
pub mod Around
