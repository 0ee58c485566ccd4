pub mod Operands
pub mod Intrinsics
pub mod SeenNames
pub mod FoundSteps
