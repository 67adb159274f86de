pub mod Blocks
pub mod Chain
pub mod Drill
pub mod InTurn
pub mod Line
