pub mod StatementLaws
pub mod CloseLaws
pub mod OpenLaws
