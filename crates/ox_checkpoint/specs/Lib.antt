pub mod Held
pub mod Standing
pub mod Judgement
pub mod Putting
pub mod Unjudged
pub mod Coming
