pub mod NamedPlaces
pub mod NamedValues
pub mod NamedNames
pub mod NamedSteps
pub mod NamedBodies
pub mod ByteValues
pub mod ByteStatements
pub mod ByteStrings
pub use Rattle.main_translation_laws.proofs.fortran_laws
pub use Rattle.main_translation_laws.proofs as main_translation_laws
