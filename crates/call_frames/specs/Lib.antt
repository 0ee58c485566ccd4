pub mod Entries
pub mod Frames
