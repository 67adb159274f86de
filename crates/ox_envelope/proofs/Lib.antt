pub mod SearchLemmas
pub mod PayloadLemmas
pub mod IdLemmas
pub mod PushLemmas
pub mod SpellingLemmas
