pub mod Places
pub mod Scopes
pub mod FunctionObjects
pub mod Programs
pub mod BuiltCode
pub use Rattle.c_structure_laws.proofs.c_laws
pub use Rattle.c_structure_laws.proofs as c_structure_laws
