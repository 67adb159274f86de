pub mod Answer
pub mod Apart
pub mod Counts
pub mod Parts
