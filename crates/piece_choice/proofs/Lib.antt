pub mod AskableNames
pub mod ChoiceLemmas
