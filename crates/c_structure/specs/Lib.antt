pub mod Expressions
pub mod Statements
pub use Rattle.c_tree.specs as c_tree
pub use Rattle.c_tree.specs.run_state
