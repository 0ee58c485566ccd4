pub mod DeclarationSteps
