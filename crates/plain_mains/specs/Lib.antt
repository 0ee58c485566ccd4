pub mod PlainUnits
pub mod Examples
pub use Rattle.main_translation_laws.specs.c_emit
pub use Rattle.main_translation_laws.specs.f_tree
pub use Rattle.main_translation_laws.specs.faithful
pub use Rattle.main_translation_laws.specs.lowering_laws
pub use Rattle.main_translation_laws.specs.main_programs
pub use Rattle.main_translation_laws.specs.main_translation
pub use Rattle.main_translation_laws.specs as main_translation_laws
pub use Rattle.main_translation_laws.specs.plain_forms
