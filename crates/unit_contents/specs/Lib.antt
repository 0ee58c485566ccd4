pub mod ContentsOf
pub mod Parts
pub mod Tables
