pub mod NamedLinks
pub use Rattle.declaration_rows.specs as declaration_rows
pub use Rattle.offset_classes.specs.f_tree
pub use Rattle.offset_classes.specs as offset_classes
