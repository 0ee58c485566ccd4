pub mod NameLemmas
pub mod JudgeLemmas
