pub mod Command
pub mod Digits
pub mod Feed
pub mod Held
