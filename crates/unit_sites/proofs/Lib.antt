pub use Rattle.unit_file.proofs.c_laws
