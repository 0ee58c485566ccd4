pub mod ActionLemmas
