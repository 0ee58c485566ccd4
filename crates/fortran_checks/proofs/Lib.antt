pub mod CheckLemmas
pub mod FoundLemmas
