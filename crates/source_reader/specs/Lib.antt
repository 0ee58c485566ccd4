pub mod Along
pub mod Limits
pub mod Mentions
pub mod PartReading
pub mod SourceReading
pub mod Sources
pub mod Trees
pub use Rattle.source_verdict.specs.faithful
pub use Rattle.fortran_text.specs as fortran_text
pub use Rattle.source_verdict.specs.named_units
pub use Rattle.source_acceptance.specs as source_acceptance
pub use Rattle.source_verdict.specs as source_verdict
pub use Rattle.source_verdict.specs.translated_files
pub use Rattle.source_verdict.specs.unit_file
pub use Rattle.source_verdict.specs.unit_sites
pub use Rattle.source_verdict.specs.unit_translation
