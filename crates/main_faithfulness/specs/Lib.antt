pub mod MainFaithful
pub use Rattle.main_translation_laws.specs.c_emit
pub use Rattle.main_translation_laws.specs.c_structure
pub use Rattle.main_translation_laws.specs.c_tree
pub use Rattle.main_translation_laws.specs.f_tree
pub use Rattle.main_translation_laws.specs.faithful
pub use Rattle.main_translation_laws.specs.l_core
pub use Rattle.main_translation_laws.specs.linking_laws
pub use Rattle.main_translation_laws.specs.lowering
pub use Rattle.main_translation_laws.specs.main_file
pub use Rattle.main_translation_laws.specs.main_programs
pub use Rattle.main_translation_laws.specs.main_translation
pub use Rattle.main_translation_laws.specs as main_translation_laws
pub use Rattle.main_translation_laws.specs.plain_forms
pub use Rattle.main_translation_laws.specs.run_state
