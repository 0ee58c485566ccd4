mod ReadLemmas
mod ShelfLemmas
mod ListingLemmas
mod Endings
pub use Rattle.source_files.proofs as source_files
pub use Rattle.source_files.proofs.source_verdict
