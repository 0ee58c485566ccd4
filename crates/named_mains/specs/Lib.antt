pub mod NamedMains
pub use Rattle.main_translation.specs.c_emit
pub use Rattle.main_translation.specs.c_image
pub use Rattle.main_translation.specs.c_structure
pub use Rattle.main_translation.specs.c_tree
pub use Rattle.main_translation.specs.f_tree
pub use Rattle.main_translation.specs.faithful
pub use Rattle.item_emission.specs as item_emission
pub use Rattle.main_translation.specs.l_core
pub use Rattle.main_translation.specs.main_file
pub use Rattle.main_translation.specs as main_translation
pub use Rattle.item_emission.specs.named_items
