mod SignLemmas
pub mod ReadingSteps
pub mod ListSteps
