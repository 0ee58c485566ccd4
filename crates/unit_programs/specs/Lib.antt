pub mod OwnStorage
pub mod TranslatedUnits
pub mod EmittedFile
pub mod UnitRuns
pub mod Example
pub mod KeptExample
pub use Rattle.behind_bounds.specs as behind_bounds
pub use Rattle.emitted_procedures.specs.procedure_emission
pub use Rattle.unit_file_laws.specs.unit_file
pub use Rattle.unit_file_laws.specs as unit_file_laws
pub use Rattle.unit_forms.specs as unit_forms
pub use Rattle.unit_file_laws.specs.unit_places
pub use Rattle.unit_file_laws.specs.unit_sites
