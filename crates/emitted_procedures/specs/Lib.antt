pub mod SimulatedUnits
pub mod MainUnits
pub use Rattle.procedure_emission.specs.c_emit
pub use Rattle.procedure_emission.specs.c_emit_laws
pub use Rattle.procedure_emission.specs.c_image
pub use Rattle.procedure_emission.specs.c_tree
pub use Rattle.procedure_emission.specs.emitted_texts
pub use Rattle.procedure_emission.specs.f_tree
pub use Rattle.procedure_emission.specs.faithful
pub use Rattle.procedure_emission.specs.l_core
pub use Rattle.procedure_emission.specs.output_laws
pub use Rattle.procedure_emission.specs as procedure_emission
pub use Rattle.procedure_emission.specs.run_state
pub use Rattle.procedure_emission.specs.simulation
