mod PartLemmas
mod PlaceLemmas
