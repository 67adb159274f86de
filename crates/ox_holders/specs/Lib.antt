pub mod Outputs
pub mod Keys
