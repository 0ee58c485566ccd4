pub mod TermForms
pub mod NumberLaws
pub mod PointerLaws
pub mod ListPlaces
pub mod ValueLists
pub mod DirectLaws
pub mod FieldLaws
