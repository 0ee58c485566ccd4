pub mod NamedEmission
pub mod Agreeing
pub use Rattle.main_file.specs.c_emit
pub use Rattle.main_file.specs.c_image
pub use Rattle.named_items.specs.c_structure
pub use Rattle.c_tree.specs as c_tree
pub use Rattle.main_file.specs.f_tree
pub use Rattle.main_file.specs.l_core
pub use Rattle.main_file.specs as main_file
pub use Rattle.named_items.specs as named_items
