pub mod Digits
pub mod Checksum
pub mod Address
pub mod Passes
pub mod Spelled
