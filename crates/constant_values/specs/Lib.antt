pub mod Folded
pub mod KnownConstants
pub mod FunctionNames
pub mod Operands
pub mod TextSteps
