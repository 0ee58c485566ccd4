pub mod Spelled
pub use Rattle.c_text.specs as c_text
pub use Rattle.c_laws.specs.c_tree
