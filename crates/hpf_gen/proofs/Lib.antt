pub mod Files
pub mod Sizes
