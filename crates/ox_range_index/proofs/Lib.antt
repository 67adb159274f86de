pub mod CountLaws
pub mod ReachLaws
