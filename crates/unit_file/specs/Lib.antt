pub mod UnitFile
pub mod UnitNames
pub mod UnitItems
pub mod UnitSavings
pub use Rattle.procedure_emission.specs.c_emit_laws
pub use Rattle.main_file.specs.c_tree
pub use Rattle.procedure_emission.specs.emitted_texts
pub use Rattle.procedure_emission.specs.output_laws
pub use Rattle.procedure_emission.specs as procedure_emission
