pub use Rattle.unit_sites.proofs.c_laws
