pub mod TranslatedFiles
pub use Rattle.unit_forms.specs.c_tree
pub use Rattle.translated_forms.specs.declaration_rows
pub use Rattle.unit_forms.specs.f_tree
pub use Rattle.unit_forms.specs.faithful
pub use Rattle.unit_forms.specs.l_core
pub use Rattle.unit_forms.specs.lowering
pub use Rattle.unit_forms.specs.main_translation
pub use Rattle.named_units.specs as named_units
pub use Rattle.translated_forms.specs as translated_forms
pub use Rattle.named_units.specs.unit_file
pub use Rattle.unit_forms.specs as unit_forms
pub use Rattle.named_units.specs.unit_sites
pub use Rattle.named_units.specs.unit_translation
