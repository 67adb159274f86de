pub mod Stood
pub mod Frames
pub mod Leader
pub mod Follower
pub mod NotTaken
pub mod Writing
pub mod Taken
