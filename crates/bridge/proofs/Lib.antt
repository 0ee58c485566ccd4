pub mod LinkedUnits
pub mod Beginning
pub mod Standing
pub mod Together
pub mod ExampleStands
pub use Rattle.emitted_texts.proofs.c_emit_laws
pub use Rattle.emitted_texts.proofs as emitted_texts
