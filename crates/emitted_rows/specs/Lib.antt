pub mod Example
pub mod KeptExample
