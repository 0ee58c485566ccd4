pub mod ObjectBytes
pub use Rattle.tree_nodes.specs.declaration_rows
pub use Rattle.tree_nodes.specs.f_tree
pub use Rattle.tree_nodes.specs as tree_nodes
