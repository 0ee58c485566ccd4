pub mod BehindFlow
pub use Rattle.behind_bounds.specs as behind_bounds
pub use Rattle.unit_translation.specs.f_tree
pub use Rattle.unit_translation.specs.l_core
pub use Rattle.unit_translation.specs.main_translation
