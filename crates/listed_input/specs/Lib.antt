pub mod Fetching
pub mod Texts
pub mod Reading
pub mod Steps
pub mod Searching
pub mod Endings
pub mod Transferring
pub mod Giving
