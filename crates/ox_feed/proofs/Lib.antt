pub mod HearingOnlyTalks
pub mod HearingsInTurn
pub mod PairsOfDigits
pub mod Parts
pub mod Table
pub mod Words
