pub mod ListFields
pub mod FieldNames
pub mod LinkedTerms
pub mod LinkedItems
