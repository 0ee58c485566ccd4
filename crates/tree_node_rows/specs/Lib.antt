pub mod Examples
pub use Rattle.tree_nodes.specs as tree_nodes
pub use Rattle.tree_nodes.specs.f_tree
