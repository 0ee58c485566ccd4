pub mod TypeLemmas
pub mod TypeForms
pub mod ShapeLemmas
pub mod ImpliedLemmas
pub use Rattle.name_uses.proofs as name_uses
