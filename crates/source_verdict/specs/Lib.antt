pub mod SourceRows
pub mod Fronts
pub use Rattle.refusal_order.specs.declaration_rows
pub use Rattle.refusal_order.specs.f_tree
pub use Rattle.translated_files.specs.faithful
pub use Rattle.translated_files.specs.named_units
pub use Rattle.source_acceptance.specs as source_acceptance
pub use Rattle.translated_files.specs as translated_files
pub use Rattle.translated_files.specs.unit_file
pub use Rattle.translated_files.specs.unit_forms
pub use Rattle.translated_files.specs.unit_sites
pub use Rattle.translated_files.specs.unit_translation
