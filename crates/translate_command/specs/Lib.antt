pub mod Fails
pub mod TranslatedTexts
pub mod WrittenTexts
pub mod OldPrototypes
pub mod SourceTexts
pub mod TranslateEnds
pub use Rattle.prototype_outputs.specs as prototype_outputs
