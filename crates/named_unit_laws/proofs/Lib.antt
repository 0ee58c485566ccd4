pub mod UnitBoundNames
pub mod UnitReaches
pub mod UnitSteps
pub mod UnitSaved
pub mod UnitBodiesMade
