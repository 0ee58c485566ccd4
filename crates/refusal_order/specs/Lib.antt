pub mod Earliest
pub use Rattle.declaration_rows.specs as declaration_rows
pub use Rattle.f_tree.specs as f_tree
pub use Rattle.declaration_rows.specs.fortran_text
