pub mod MadeBlocks
pub mod Commands
pub mod Lists
pub mod Profile
pub mod Turns
pub mod Parts
