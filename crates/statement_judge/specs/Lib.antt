pub mod StatementSites
pub mod StatementSteps
