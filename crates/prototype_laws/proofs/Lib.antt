pub mod FileLemmas
pub mod LineLemmas
pub mod TreeLemmas
pub mod VerdictLemmas
pub mod WordLemmas
