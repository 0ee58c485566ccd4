pub mod RefusalRows
pub use Rattle.c_laws.proofs as c_laws
