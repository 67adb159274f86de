pub mod Moments
pub mod Body
pub mod Payload
pub mod Stands
pub mod OldChains
pub mod OldStands
pub mod Survives
pub mod Runs
