pub mod StatementLaws
pub mod StatementRows
pub use Rattle.c_grammar_laws.specs as c_grammar_laws
