pub mod Knowing
pub mod Operands
