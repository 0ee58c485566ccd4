pub mod ToldLaws
pub mod Headings
