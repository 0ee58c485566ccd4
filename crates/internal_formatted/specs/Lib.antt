pub mod Storing
pub mod Acting
pub mod Closing
pub mod Reaching
pub mod Transferring
pub mod Putting
