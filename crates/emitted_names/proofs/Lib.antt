pub mod TermNames
pub mod ItemNames
