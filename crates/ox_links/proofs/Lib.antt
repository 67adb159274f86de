pub mod Each
pub mod Moments
pub mod GoingOn
pub mod Apart
pub mod States
pub mod Answered
pub mod Asked
pub mod Quiet
pub mod Turns
pub mod Like
pub mod Replay
pub mod Tallied
pub mod Round
mod Toy
mod Rows
mod TurnRows
