pub mod Outside
pub mod Flow
pub mod Passes
pub mod GivesAnswer
pub mod Ends
pub mod Streams
