pub mod SignLemmas
pub mod StatementForms
pub mod ClassLemmas
pub mod UsedForms
