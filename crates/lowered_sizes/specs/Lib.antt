pub mod ReadNodes
pub use Rattle.lowering.specs as lowering
pub use Rattle.lowering.specs.l_core
