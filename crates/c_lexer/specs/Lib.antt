pub mod Heads
pub mod Parts
pub mod SeenTokens
pub mod Strings
pub use Rattle.c_tree.specs as c_tree
