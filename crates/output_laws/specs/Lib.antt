pub mod ListedOutputs
pub use Rattle.faithful.specs.c_tree
pub use Rattle.faithful.specs.edit_meaning
pub use Rattle.faithful.specs.f_tree
pub use Rattle.faithful.specs as faithful
pub use Rattle.faithful.specs.run_state
pub use Rattle.faithful.specs.simulation
