pub mod NamedLabels
pub mod StatementSizes
pub mod StepPositions
pub mod NextArms
pub mod StepWays
pub mod LaidOut
pub mod StatementPlaces
pub use Rattle.open_loops.specs as open_loops
