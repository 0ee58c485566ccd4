pub mod Emission
pub mod MainStorage
pub mod MainStrings
pub mod MainRuns
pub use Rattle.bridge.proofs.c_emit_laws
pub use Rattle.main_file_laws.proofs.c_laws
pub use Rattle.main_file_laws.proofs.c_structure_laws
pub use Rattle.plain_forms.proofs.fortran_laws
pub use Rattle.main_file_laws.proofs.linking_laws
pub use Rattle.main_file_laws.proofs as main_file_laws
