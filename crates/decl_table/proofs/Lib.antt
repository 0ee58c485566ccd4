pub mod FactLemmas
pub mod BoundLemmas
pub mod ConstantLemmas
pub mod FunctionLemmas
pub mod TableLemmas
pub mod DeclarationLemmas
