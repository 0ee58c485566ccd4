pub mod PlainMains
pub mod Example
pub use Rattle.main_programs.specs.c_emit
pub use Rattle.main_programs.specs.c_emit_laws
pub use Rattle.main_programs.specs.c_image
pub use Rattle.main_programs.specs.c_structure
pub use Rattle.main_programs.specs.c_structure_laws
pub use Rattle.main_programs.specs.c_tree
pub use Rattle.main_programs.specs.f_tree
pub use Rattle.main_programs.specs.faithful
pub use Rattle.main_programs.specs.l_core
pub use Rattle.main_programs.specs.linking_laws
pub use Rattle.main_programs.specs.lowering
pub use Rattle.main_programs.specs.lowering_laws
pub use Rattle.lowered_rows.specs as lowered_rows
pub use Rattle.main_programs.specs.main_file
pub use Rattle.main_programs.specs.main_file_laws
pub use Rattle.main_programs.specs as main_programs
pub use Rattle.main_programs.specs.main_translation
pub use Rattle.main_programs.specs.plain_forms
pub use Rattle.main_programs.specs.run_state
