pub mod UnitFlow
pub mod UnitBounds
pub mod UnitContents
pub mod UnitBodies
pub use Rattle.behind_bounds.specs as behind_bounds
pub use Rattle.main_translation.specs.c_emit
pub use Rattle.unit_sites.specs.c_emit_laws
pub use Rattle.main_translation.specs.c_structure
pub use Rattle.main_translation.specs.c_tree
pub use Rattle.unit_sites.specs.emitted_texts
pub use Rattle.main_translation.specs.f_tree
pub use Rattle.main_translation.specs.faithful
pub use Rattle.main_translation.specs.l_core
pub use Rattle.main_translation.specs.main_file
pub use Rattle.main_translation.specs as main_translation
pub use Rattle.unit_sites.specs.procedure_emission
pub use Rattle.main_translation.specs.run_state
pub use Rattle.unit_sites.specs.unit_file
pub use Rattle.unit_sites.specs as unit_sites
