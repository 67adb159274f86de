pub mod FramesInTurn
pub mod Hearings
pub mod HeadsOfPieces
pub mod PiecesOfLeaders
pub mod StoodFiles
