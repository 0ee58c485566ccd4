pub mod ToldApart
pub mod Words
pub mod Callees
pub mod Parts
pub mod Spelled
pub mod Composed
pub mod Whole
