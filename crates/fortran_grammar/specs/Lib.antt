pub mod ControlForms
pub mod DeclarationForms
pub mod ExpressionSpelling
pub mod Forms
pub mod IncludedFiles
pub mod ListForms
pub mod StatementForms
pub mod StatementSpelling
pub mod SyntaxRows
pub mod UnitsOfFile
pub use Rattle.fortran_lexemes.specs.f_tree
pub use Rattle.fortran_lexemes.specs as fortran_lexemes
pub use Rattle.fortran_lexemes.specs.fortran_text
