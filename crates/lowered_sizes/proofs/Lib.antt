pub mod ExpressionSteps
pub mod StatementSteps
pub mod UnitSteps
pub use Rattle.ways_back.proofs as ways_back
