pub use Rattle.procedure_emission.proofs.c_laws
