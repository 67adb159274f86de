pub mod Gathered
pub mod Held
pub mod Paths
pub mod Replies
pub mod Scripts
pub mod Trees
