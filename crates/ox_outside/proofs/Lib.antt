pub mod Calls
pub mod Counts
pub mod Disk
pub mod Event
pub mod Links
pub mod Log
pub mod OnlyTalks
