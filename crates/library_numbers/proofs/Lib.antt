pub mod BitLemmas
pub mod PowerLemmas
