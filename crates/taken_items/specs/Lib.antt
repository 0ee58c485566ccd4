pub mod Storing
pub mod Taking
pub mod Reaching
