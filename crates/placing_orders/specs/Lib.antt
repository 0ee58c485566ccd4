pub mod PlaceRows
pub mod Numbered
