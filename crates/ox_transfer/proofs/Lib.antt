pub mod Once
pub mod Takes
pub mod Deals
pub mod Places
pub mod Spends
pub mod Sizes
pub mod Claims
