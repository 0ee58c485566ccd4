pub mod WellFormedUnits
pub mod SpelledUnits
pub mod ExampleText
