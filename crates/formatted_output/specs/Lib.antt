pub mod Fronts
pub mod Acting
pub mod Closing
pub mod Reaching
pub mod Putting
pub mod Transferring
