pub mod PlainUnits
pub mod SpellableNames
pub mod OwnStorage
pub use Rattle.main_translation.specs.c_structure
pub use Rattle.main_translation.specs.c_tree
pub use Rattle.lowering_laws.specs.f_tree
pub use Rattle.main_translation.specs.faithful
pub use Rattle.lowering_laws.specs.l_core
pub use Rattle.lowering_laws.specs.lowering
pub use Rattle.lowering_laws.specs as lowering_laws
pub use Rattle.main_translation.specs.main_file
pub use Rattle.main_translation.specs as main_translation
