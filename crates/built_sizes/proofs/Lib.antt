pub mod Sizes
pub mod Built
