pub mod Composed
pub use Rattle.c_spelling.proofs.c_laws
pub use Rattle.declaration_laws.proofs as declaration_laws
pub use Rattle.declaration_laws.proofs.fortran_laws
pub use Rattle.main_faithfulness.proofs.linking_laws
pub use Rattle.main_file_texts.proofs as main_file_texts
pub use Rattle.main_faithfulness.proofs.main_translation_laws
