pub use Rattle.fortran_lexemes.specs as fortran_lexemes
pub use Rattle.fortran_text.specs as fortran_text
pub use Rattle.split_pieces.specs as split_pieces
