mod SourceLemmas
