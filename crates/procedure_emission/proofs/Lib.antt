pub use Rattle.emitted_texts.proofs.c_emit_laws
pub use Rattle.emitted_texts.proofs.c_image_laws
pub use Rattle.emitted_texts.proofs.c_laws
pub use Rattle.emitted_texts.proofs as emitted_texts
pub use Rattle.emitted_texts.proofs.output_laws
pub use Rattle.late_starts.proofs as late_starts
pub use Rattle.kept_bounds.proofs as kept_bounds
pub use Rattle.bound_items.proofs as bound_items
