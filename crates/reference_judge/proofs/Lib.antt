pub mod SightForms
pub mod SightLaws
pub mod BindingLaws
pub mod ShapeLaws
pub mod PassedLaws
