pub mod Settings
pub mod Signed
pub mod LinkRules
pub mod Links
pub mod Faithfulness
pub use Rattle.main_translation_laws.proofs.c_emit_laws
pub use Rattle.main_translation_laws.proofs.fortran_laws
pub use Rattle.main_translation_laws.proofs.linking_laws
pub use Rattle.main_translation_laws.proofs as main_translation_laws
