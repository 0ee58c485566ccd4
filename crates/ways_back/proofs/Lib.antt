pub mod Ways
pub mod LoweredTexts
pub mod ForwardExpressions
pub mod ForwardForms
pub mod CodeLengths
pub mod UnitWays
pub mod UnitMarks
