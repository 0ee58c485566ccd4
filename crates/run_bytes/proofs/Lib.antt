pub mod CellLemmas
pub mod PartLemmas
pub mod PlaceLemmas
pub mod LayoutLemmas
pub mod RunLemmas
pub mod AddedLemmas
