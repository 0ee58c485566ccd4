pub mod SizeLaws
pub mod FieldLaws
