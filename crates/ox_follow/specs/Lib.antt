pub mod Position
pub mod Frame
pub mod Front
pub mod World
pub mod Talk
