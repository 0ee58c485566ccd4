pub mod SourceFiles
pub mod TextRows
pub mod Acceptance
pub use Rattle.declaration_rows.specs as declaration_rows
