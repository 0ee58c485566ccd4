pub mod Acting
pub mod Reaching
pub mod Transferring
pub mod Giving
