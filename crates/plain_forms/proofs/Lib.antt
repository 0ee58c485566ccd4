pub use Rattle.lowering_laws.proofs.fortran_laws
pub use Rattle.lowering_laws.proofs as lowering_laws
