pub mod ScriptLemmas
pub mod WitnessLemmas
pub mod PartLemmas
pub mod FormLemmas
