pub mod Sound
pub mod Standing
pub mod Totality
