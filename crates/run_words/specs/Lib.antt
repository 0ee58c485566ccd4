pub mod RunWords
pub mod Reading
