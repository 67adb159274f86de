pub mod Asked
pub mod Listed
pub mod Paged
pub mod Sides
pub mod Written
