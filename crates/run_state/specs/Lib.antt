pub mod Bits
pub mod Endings
pub mod Units
