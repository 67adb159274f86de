pub mod ReadLoop
pub mod WriteLoop
pub mod GrammarLaws
