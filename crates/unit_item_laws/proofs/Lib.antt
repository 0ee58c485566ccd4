pub mod UnitObjects
pub mod UnitStepsAgree
