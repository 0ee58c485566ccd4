pub mod Acting
pub mod Reaching
pub mod Giving
pub mod Transferring
