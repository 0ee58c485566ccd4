pub mod AskingLemmas
pub mod NumberLemmas
