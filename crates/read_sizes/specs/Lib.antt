pub mod ReadUnits
pub use Rattle.lowered_sizes.specs as lowered_sizes
pub use Rattle.tree_nodes.specs as tree_nodes
pub use Rattle.tree_nodes.specs.f_tree
