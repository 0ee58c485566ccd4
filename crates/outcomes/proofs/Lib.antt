mod MessageLemmas
pub mod ToldLemmas
