pub mod Ties
pub mod Rows
pub mod Steps
pub mod Scripts
