pub mod Answers
pub mod Cells
pub mod Accesses
pub mod ObjectCode
pub mod Layout
