pub mod ListLemmas
pub mod WalkLemmas
pub mod TemporaryLemmas
pub mod PlaceLemmas
pub mod RangeLemmas
pub mod UnitLemmas
