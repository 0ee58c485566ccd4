pub mod SourceOnShelf
pub mod SourceReads
pub mod SourceEnds
pub use Rattle.source_reader.specs.faithful
pub use Rattle.source_reader.specs.source_acceptance
pub use Rattle.source_reader.specs as source_reader
pub use Rattle.source_reader.specs.source_verdict
pub use Rattle.source_reader.specs.translated_files
