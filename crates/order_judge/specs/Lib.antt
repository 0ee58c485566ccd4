pub mod LabelSteps
pub mod NestSteps
