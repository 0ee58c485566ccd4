pub mod Conditions
pub mod FormLemmas
pub mod LabelLemmas
pub mod EndLemmas
pub mod RangeLemmas
pub mod CrossingLemmas
pub use Rattle.found_rows.proofs as found_rows
