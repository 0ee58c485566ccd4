pub mod SecondLayer
pub mod Emitted
pub mod Example
pub use Rattle.c_emit_laws.specs.c_emit
pub use Rattle.c_emit_laws.specs as c_emit_laws
pub use Rattle.c_emit_laws.specs.c_image
pub use Rattle.c_emit_laws.specs.c_image_laws
pub use Rattle.output_laws.specs.c_tree
pub use Rattle.output_laws.specs.edit_meaning
pub use Rattle.output_laws.specs.f_tree
pub use Rattle.output_laws.specs.faithful
pub use Rattle.c_emit_laws.specs.l_core
pub use Rattle.output_laws.specs as output_laws
pub use Rattle.output_laws.specs.run_state
pub use Rattle.output_laws.specs.simulation
