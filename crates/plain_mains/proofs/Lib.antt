pub mod Described
pub mod StoredNames
pub mod PlainUnits
pub mod ExampleRows
pub use Rattle.main_translation_laws.proofs.c_emit_laws
pub use Rattle.main_translation_laws.proofs.fortran_laws
pub use Rattle.main_translation_laws.proofs.linking_laws
pub use Rattle.main_translation_laws.proofs as main_translation_laws
