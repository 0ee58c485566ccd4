pub mod EndLemmas
pub mod FrontLemmas
pub mod ListingLemmas
pub mod SplitLemmas
