pub mod Seen
pub mod Tallied
