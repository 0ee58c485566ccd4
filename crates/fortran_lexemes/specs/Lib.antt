pub mod KindsOfStatements
pub mod LexicalRows
pub mod Lexemes
pub mod PiecesOfStatements
pub mod PiecesOfText
pub use Rattle.fortran_text.specs.f_tree
pub use Rattle.fortran_text.specs as fortran_text
