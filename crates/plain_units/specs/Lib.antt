pub mod PlainParts
pub mod Examples
pub use Rattle.unit_translation_laws.specs.procedure_emission
pub use Rattle.unit_translation_laws.specs.unit_file
pub use Rattle.unit_translation_laws.specs.unit_file_laws
pub use Rattle.unit_translation_laws.specs.unit_forms
pub use Rattle.unit_translation_laws.specs.unit_programs
pub use Rattle.unit_translation_laws.specs.unit_sites
pub use Rattle.unit_translation_laws.specs.unit_translation
pub use Rattle.unit_translation_laws.specs as unit_translation_laws
