pub mod CallForms
pub mod CallLaws
pub mod FindingLaws
pub mod OrderLemmas
pub mod ProcedureLaws
pub mod ReasonLemmas
