pub mod StatementForms
pub mod StatementLaws
