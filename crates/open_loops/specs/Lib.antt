pub mod ReadLines
pub mod LoopPlaces
pub mod OpenRanges
pub mod KeptTemporaries
pub mod PlacesAmong
