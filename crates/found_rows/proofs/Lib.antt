pub mod FirstLemmas
pub mod Walks
