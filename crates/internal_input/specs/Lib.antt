pub mod Endings
pub mod Texts
pub mod Fetching
pub mod Reading
pub mod Steps
pub mod Searching
pub mod Transferring
pub mod Giving
