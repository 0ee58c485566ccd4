pub mod ReaderLemmas
pub use Rattle.stmt_parse.proofs.grammar_laws
