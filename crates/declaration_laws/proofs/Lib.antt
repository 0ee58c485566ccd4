pub mod DefinitionFits
pub mod ExpressionFits
pub mod NameFits
pub mod SetFits
pub mod StatementFits
pub mod UnitFits
pub mod VerdictLemmas
pub use Rattle.fortran_laws.proofs as fortran_laws
