pub mod Texts
pub mod SetLemmas
