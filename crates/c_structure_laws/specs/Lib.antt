pub mod Fitting
pub mod Example
pub use Rattle.c_structure.specs as c_structure
pub use Rattle.c_laws.specs.c_tree
pub use Rattle.c_laws.specs.run_state
pub use Rattle.c_laws.specs.simulation
