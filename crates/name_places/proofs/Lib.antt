pub mod NoteLemmas
pub mod NoteForms
pub mod PlaceLemmas
pub mod SeenLemmas
