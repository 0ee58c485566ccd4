pub mod Saturation
pub mod ElementLaws
pub mod ToldLaws
pub mod Statements
pub mod Described
