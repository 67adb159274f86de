pub mod Counts
pub mod Portion
