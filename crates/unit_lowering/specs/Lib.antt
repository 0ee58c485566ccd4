pub mod Rows
pub mod LineForms
pub mod LineSteps
pub mod LineMarks
pub mod LabelStarts
pub mod AssignedLabels
pub mod LoweredUnits
pub use Rattle.statement_places.specs.open_loops
pub use Rattle.statement_lowering.specs as statement_lowering
pub use Rattle.statement_places.specs as statement_places
