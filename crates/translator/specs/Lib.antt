pub mod TranslatedFiles
pub mod FittingSteps
pub mod UnitFiles
pub mod LoweredFiles
