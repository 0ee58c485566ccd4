mod TextLemmas
mod FormLemmas
mod OldLemmas
mod WriteLemmas
mod Endings
pub use Rattle.prototype_outputs.proofs as prototype_outputs
