pub mod LimitLemmas
pub mod PieceLaws
pub mod PieceLemmas
pub mod TextLemmas
pub mod ViewLemmas
pub mod WantedLemmas
