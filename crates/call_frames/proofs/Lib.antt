pub mod FrameLists
pub mod BindingLaws
pub mod StartLaws
