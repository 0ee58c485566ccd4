pub mod ShelfLaws
mod TextLemmas
mod MemoryLaws
mod TapeLaws
pub mod TableLaws
mod FinishLaws
mod StillTells
pub mod MeaningLaws
mod PlacedMeaning
