pub mod Stems
pub mod ToldNames
pub use Rattle.fortran_laws.proofs as fortran_laws
