pub mod ListLemmas
pub mod BodyForms
pub mod LabelForms
pub mod LabelLemmas
pub mod NamedTheorem
pub mod SizeLemmas
pub mod CodeLemmas
pub mod SizeTheorem
pub mod PositionLemmas
pub mod PositionTheorem
pub mod ArmLemmas
pub mod ArmTheorem
pub mod EndTheorem
pub mod WayLemmas
pub mod WayTheorem
pub mod PlaceTheorem
pub use Rattle.loop_ranges.proofs as loop_ranges
