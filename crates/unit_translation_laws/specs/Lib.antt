pub mod PlainUnits
pub mod RenderedUnits
pub mod Example
pub use Rattle.unit_translation.specs.procedure_emission
pub use Rattle.unit_translation.specs.unit_file
pub use Rattle.unit_programs.specs.unit_file_laws
pub use Rattle.unit_programs.specs.unit_forms
pub use Rattle.unit_programs.specs as unit_programs
pub use Rattle.unit_translation.specs.unit_sites
pub use Rattle.unit_translation.specs as unit_translation
