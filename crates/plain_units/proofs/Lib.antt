pub mod Fixed
pub mod Dummies
pub mod PlainParts
pub mod ExampleRows
pub use Rattle.unit_translation_laws.proofs.unit_places
pub use Rattle.unit_translation_laws.proofs.unit_programs
pub use Rattle.unit_translation_laws.proofs as unit_translation_laws
