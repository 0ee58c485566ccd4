pub mod ChosenNames
pub mod Pieces
pub mod WantedNames
