pub mod PlaceLaws
pub mod KnownLaws
