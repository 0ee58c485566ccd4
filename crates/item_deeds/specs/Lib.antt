pub mod Deeds
pub mod Calls
pub mod Forms
