pub mod ArgumentLists
pub mod FormLaws
pub mod DeedLaws
pub mod CaseLaws
