pub mod AlongLemmas
pub mod MentionLemmas
pub mod NameLemmas
pub mod NamedLemmas
pub mod PartLemmas
pub mod LimitLemmas
pub mod TreeLemmas
pub mod SourceFacts
pub mod CardTheorem
pub mod TreeTheorem
pub use Rattle.source_verdict.proofs as source_verdict
