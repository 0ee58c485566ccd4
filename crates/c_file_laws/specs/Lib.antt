pub mod FileLaws
pub mod FileRows
