pub mod NamesSeen
pub mod ScopeSeen
