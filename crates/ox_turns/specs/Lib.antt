pub mod Desk
pub mod Follows
pub mod Places
pub mod Turn
