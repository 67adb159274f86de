pub mod Keys
pub mod Lawful
pub mod Laws
pub mod Lines
pub mod Shards
