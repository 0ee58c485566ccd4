pub mod ArmLemmas
pub mod Equations
pub mod LocalLemmas
pub mod StatementEquations
