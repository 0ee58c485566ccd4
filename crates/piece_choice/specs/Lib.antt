pub mod NamesOfPieces
pub use Rattle.piece_names.specs as piece_names
