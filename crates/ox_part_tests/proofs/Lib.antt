pub mod Nothing
pub mod Rising
pub mod Values
