pub mod Fails
pub mod Listing
pub mod SplitFiles
pub mod SplitEnds
pub use Rattle.fsplit.specs.fortran_text
pub use Rattle.piece_choice.specs as piece_choice
pub use Rattle.piece_choice.specs.piece_names
pub use Rattle.piece_writer.specs as piece_writer
pub use Rattle.fsplit.specs.split_pieces
