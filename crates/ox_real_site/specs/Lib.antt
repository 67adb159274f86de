pub mod Faults
pub mod Idles
pub mod Seen
pub mod Streams
pub mod Tallied
