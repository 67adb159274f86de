pub mod Due
pub mod Known
pub mod Link
