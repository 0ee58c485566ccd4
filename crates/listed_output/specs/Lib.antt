pub mod Kinds
pub mod Items
pub mod Writing
pub mod Transferring
