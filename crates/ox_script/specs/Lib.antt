pub mod Script
pub mod Form
pub mod Shape
pub mod Witness
