pub mod Spelling
pub mod Reading
pub mod Place
pub mod Limits
