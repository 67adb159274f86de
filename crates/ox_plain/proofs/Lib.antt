pub mod SameLemmas
pub mod DifferenceEnds
pub mod CountEnds
pub mod EndLaws
pub mod TableLemmas
