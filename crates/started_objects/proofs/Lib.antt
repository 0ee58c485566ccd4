pub mod LateLists
pub mod StartLaws
pub mod FieldLaws
