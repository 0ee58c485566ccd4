pub mod AnyLaws
pub mod ByteLaws
pub mod FieldEquations
pub mod MissingLaws
pub mod MissingSteps
pub mod NameSteps
pub mod RuleLaws
