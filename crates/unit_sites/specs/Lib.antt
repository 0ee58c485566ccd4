pub mod UnitSites
pub use Rattle.unit_file.specs.c_emit_laws
pub use Rattle.unit_file.specs.emitted_texts
pub use Rattle.unit_file.specs.output_laws
pub use Rattle.unit_file.specs.procedure_emission
pub use Rattle.unit_file.specs as unit_file
