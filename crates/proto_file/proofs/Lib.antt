pub mod LineSteps
pub mod PartSteps
pub mod ReadSteps
pub mod TreeSteps
pub mod WordSteps
