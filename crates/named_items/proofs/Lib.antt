pub mod Forms
pub mod WrittenAlike
pub mod NamedItems
pub mod Growth
pub mod Agreeing
