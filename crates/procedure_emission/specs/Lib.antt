pub mod ProcedureItems
pub mod Reading
pub mod CallLayer
pub mod DummyBounds
pub mod EmittedUnits
pub use Rattle.bound_items.specs as bound_items
pub use Rattle.emitted_texts.specs.c_emit
pub use Rattle.emitted_texts.specs.c_emit_laws
pub use Rattle.emitted_texts.specs.c_image
pub use Rattle.emitted_texts.specs.c_image_laws
pub use Rattle.emitted_texts.specs.c_tree
pub use Rattle.emitted_texts.specs.edit_meaning
pub use Rattle.emitted_texts.specs as emitted_texts
pub use Rattle.emitted_texts.specs.f_tree
pub use Rattle.emitted_texts.specs.faithful
pub use Rattle.kept_bounds.specs as kept_bounds
pub use Rattle.emitted_texts.specs.l_core
pub use Rattle.late_starts.specs as late_starts
pub use Rattle.emitted_texts.specs.output_laws
pub use Rattle.emitted_texts.specs.run_state
pub use Rattle.emitted_texts.specs.simulation
