pub mod MapSums
pub mod Orders
pub mod Conservation
pub mod Transfers
pub mod DifferenceLemmas
pub mod DifferenceRows
pub mod Cutting
pub mod Moving
