pub mod FormatRows
pub mod FormatTextRows
pub mod ListRows
pub mod ListedRows
