mod WordLemmas
mod CheckLemmas
mod SourceLemmas
