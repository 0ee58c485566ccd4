pub use Rattle.f_tree.specs as f_tree
pub use Rattle.f_tree.specs.run_state
