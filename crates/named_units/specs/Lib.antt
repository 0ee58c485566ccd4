pub mod NamedUnits
pub use Rattle.named_mains.specs.c_emit
pub use Rattle.named_mains.specs.c_image
pub use Rattle.named_mains.specs.c_structure
pub use Rattle.named_mains.specs.c_tree
pub use Rattle.named_mains.specs.f_tree
pub use Rattle.named_mains.specs.item_emission
pub use Rattle.named_mains.specs.l_core
pub use Rattle.named_mains.specs.main_file
pub use Rattle.named_mains.specs.main_translation
pub use Rattle.named_mains.specs.named_items
pub use Rattle.named_mains.specs as named_mains
pub use Rattle.unit_translation.specs.procedure_emission
pub use Rattle.unit_translation.specs.unit_file
pub use Rattle.unit_item_laws.specs.unit_file_laws
pub use Rattle.unit_item_laws.specs as unit_item_laws
pub use Rattle.unit_translation.specs.unit_sites
pub use Rattle.unit_translation.specs as unit_translation
