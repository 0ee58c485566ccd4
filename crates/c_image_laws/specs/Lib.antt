pub mod DerivedPlaces
pub mod Example
pub mod FoundElements
pub mod Meanings
pub mod Pieces
pub mod Statements
pub mod Tests
