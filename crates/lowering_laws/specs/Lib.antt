pub mod Walks
pub mod Midway
pub mod ExpressionStatements
pub mod Layer
pub mod Layout
pub use Rattle.fortran_laws.specs.f_tree
pub use Rattle.lowering.specs.l_core
pub use Rattle.lowering.specs as lowering
pub use Rattle.fortran_laws.specs.run_state
pub use Rattle.fortran_laws.specs.simulation
