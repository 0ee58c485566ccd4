pub mod Files
pub mod Items
pub mod Putting
pub mod Transferring
