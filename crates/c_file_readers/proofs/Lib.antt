pub use Rattle.c_statement_readers.proofs.grammar
