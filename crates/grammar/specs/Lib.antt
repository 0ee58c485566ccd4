pub mod Exactness
pub mod Readers
