pub mod TextLaws
pub use Rattle.c_tree.specs as c_tree
pub use Rattle.c_tree.specs.edit_meaning
pub use Rattle.c_tree.specs.run_state
pub use Rattle.c_tree.specs.simulation
