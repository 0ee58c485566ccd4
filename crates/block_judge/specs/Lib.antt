pub mod Arms
pub mod Ranges
pub mod Blocks
pub mod BlockSteps
pub mod Sharing
