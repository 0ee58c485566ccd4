pub mod Building
pub mod BuiltCases
pub mod Carrying
pub mod Labels
pub mod PlannedItems
