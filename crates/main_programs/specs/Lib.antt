pub mod EmittedMain
pub mod MainRuns
pub use Rattle.main_file_laws.specs.c_emit
pub use Rattle.bridge.specs.c_emit_laws
pub use Rattle.main_file_laws.specs.c_image
pub use Rattle.main_file_laws.specs.c_structure
pub use Rattle.main_file_laws.specs.c_structure_laws
pub use Rattle.main_file_laws.specs.c_tree
pub use Rattle.bridge.specs.emitted_texts
pub use Rattle.main_file_laws.specs.f_tree
pub use Rattle.main_file_laws.specs.faithful
pub use Rattle.main_file_laws.specs.l_core
pub use Rattle.main_file_laws.specs.linking_laws
pub use Rattle.plain_forms.specs.lowering
pub use Rattle.plain_forms.specs.lowering_laws
pub use Rattle.main_file_laws.specs.main_file
pub use Rattle.main_file_laws.specs as main_file_laws
pub use Rattle.plain_forms.specs.main_translation
pub use Rattle.plain_forms.specs as plain_forms
pub use Rattle.main_file_laws.specs.run_state
