pub mod Plain
pub mod Same
pub mod Ends
pub mod Tables
