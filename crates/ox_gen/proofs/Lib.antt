pub mod LawfulBlocks
