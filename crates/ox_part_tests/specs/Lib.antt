pub mod Empty
pub mod OneReply
pub mod Rising
pub mod Served
