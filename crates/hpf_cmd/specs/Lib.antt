pub mod Ended
pub mod Shows
pub mod Prints
pub mod Does
pub mod Causes
pub mod Promises
pub mod Runs
