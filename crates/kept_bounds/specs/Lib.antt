pub mod KeptBounds
pub mod FixedBounds
pub use Rattle.l_core.specs.f_tree
pub use Rattle.l_core.specs as l_core
