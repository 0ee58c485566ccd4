pub mod BoundWords
pub mod UnitFieldless
pub mod UnitParts
pub mod UnitTexts
pub mod TreeStrings
pub mod UnitStrings
pub mod ExampleTexts
