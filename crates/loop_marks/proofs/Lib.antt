pub mod Codes
pub mod Placed
pub mod Ranges
pub mod Labels
pub mod Backs
pub mod Loops
pub mod Starts
pub mod Whole
