pub mod LoweredForms
pub mod TranslatedForms
pub use Rattle.named_mains.specs.c_tree
pub use Rattle.statement_lowering.specs.declaration_rows
pub use Rattle.statement_lowering.specs.f_tree
pub use Rattle.named_mains.specs.faithful
pub use Rattle.statement_lowering.specs.l_core
pub use Rattle.statement_lowering.specs.lowering
pub use Rattle.named_mains.specs.main_file
pub use Rattle.named_mains.specs.main_translation
pub use Rattle.named_mains.specs as named_mains
