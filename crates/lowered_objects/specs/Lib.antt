pub mod FewObjects
pub use Rattle.lowered_sizes.specs as lowered_sizes
pub use Rattle.lowered_sizes.specs.lowering
pub use Rattle.lowered_sizes.specs.l_core
pub use Rattle.unit_translation.specs as unit_translation
