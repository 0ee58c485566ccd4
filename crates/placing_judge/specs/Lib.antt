pub mod Numbering
pub mod Walked
