mod WalkLemmas
mod ShapeLemmas
mod ClosingLemmas
mod ExpressionLemmas
mod OperandLemmas
mod CostLemmas
mod PlaceLemmas
mod LabelLemmas
mod PickedLabels
mod ReferenceLemmas
mod CallLemmas
mod CourseLemmas
mod TransferLemmas
mod HeldLabels
mod StatementLemmas
mod DoLemmas
pub mod LocalLemmas
mod CodeLemmas
mod TurnLemmas
mod LoopLemmas
mod RangeLemmas
pub mod LayoutLemmas
pub use Rattle.fortran_laws.proofs as fortran_laws
pub use Rattle.fortran_laws.proofs.simulation
