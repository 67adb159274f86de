pub mod LineLemmas
pub mod ListLemmas
pub mod ShardLemmas
pub mod SplitLemmas
pub mod TagLemmas
