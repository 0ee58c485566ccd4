pub mod DoStatements
pub mod MarkedLoops
pub use Rattle.c_loops.specs as c_loops
pub use Rattle.lowering.specs as lowering
pub use Rattle.lowering.specs.l_core
pub use Rattle.main_translation.specs as main_translation
