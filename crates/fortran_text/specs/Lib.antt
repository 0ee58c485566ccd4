pub mod CardRows
pub mod Cards
pub mod CharactersOfText
pub mod FirstFault
pub mod KindsOfCards
pub mod Lines
pub mod StatementsOfFile
pub use Rattle.f_tree.specs.edit_meaning
pub use Rattle.f_tree.specs as f_tree
