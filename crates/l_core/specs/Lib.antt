pub mod Pures
pub mod Steps
pub mod Machine
pub mod Costs
pub use Rattle.f_tree.specs as f_tree
pub use Rattle.f_tree.specs.run_state
pub use Rattle.f_tree.specs.simulation
