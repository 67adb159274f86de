pub mod Name
pub mod Texts
pub mod Spaced
pub mod Unlock
pub mod Amount
