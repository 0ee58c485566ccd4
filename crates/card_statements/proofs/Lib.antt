mod AscendingCards
mod IncludedCards
pub mod OneStatement
