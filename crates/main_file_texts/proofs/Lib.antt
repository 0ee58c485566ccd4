pub mod SpelledTerms
pub mod Fieldless
pub mod FieldlessItems
pub mod TreeLabels
pub mod SpelledStatements
pub mod MeetingLabels
pub mod Declared
pub mod Words
pub mod CaseNumbers
pub mod Declarations
pub mod Files
pub mod ExampleTexts
pub use Rattle.main_translation_laws.proofs.c_structure_laws
pub use Rattle.main_translation_laws.proofs.linking_laws
pub use Rattle.main_translation_laws.proofs.main_programs
pub use Rattle.main_translation_laws.proofs as main_translation_laws
