pub mod Numbers
pub mod FoundFields
pub mod Within
pub mod Finds
