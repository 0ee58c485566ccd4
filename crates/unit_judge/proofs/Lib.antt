pub mod PartLemmas
pub mod SetLemmas
