mod Coming
pub mod CountedMoments
pub mod DownLemmas
pub mod FilesOfStacks
mod OldChains
pub mod OldFiles
pub mod RunsInTurn
