pub mod Profiles
pub mod Heights
pub mod Degrees
pub mod Names
pub mod Spellings
