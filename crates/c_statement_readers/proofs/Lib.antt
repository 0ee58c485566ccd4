pub use Rattle.c_readers.proofs.grammar
