pub mod TreeNodes
pub use Rattle.declaration_rows.specs as declaration_rows
pub use Rattle.declaration_rows.specs.f_tree
