pub mod Lists
pub mod Owning
pub mod Clearing
pub mod Told
