pub mod Readings
pub mod WantedPieces
