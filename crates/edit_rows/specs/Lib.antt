pub mod ComparedRows
pub mod EmptyTextRows
pub mod InputRows
pub mod ListErrorRows
pub mod ReadBackRows
