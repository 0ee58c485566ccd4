pub mod Texts
pub mod Built
