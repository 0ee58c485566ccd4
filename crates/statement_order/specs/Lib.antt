pub mod OrderSteps
pub mod BeforeSteps
pub mod RowSteps
