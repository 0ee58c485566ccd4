pub mod PartsSeen
pub mod ReadTexts
