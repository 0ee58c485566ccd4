pub mod StatementLemmas
pub use Rattle.grammar_laws.proofs as grammar_laws
