pub mod ListLemmas
pub mod PlaceLemmas
pub mod ReadLemmas
pub mod SourceLemmas
pub mod EndLemmas
pub use Rattle.source_reader.proofs.source_verdict
