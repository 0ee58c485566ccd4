pub mod BuiltStrings
pub use Rattle.c_tree.specs as c_tree
pub use Rattle.named_items.specs as named_items
