pub mod DrawnExpressions
pub mod FittingStatements
pub mod BuiltLoop
pub use Rattle.c_laws.proofs as c_laws
