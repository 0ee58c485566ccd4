pub mod FilePrototypes
pub mod PrototypeText
pub mod TreePrototypes
pub use Rattle.c_text.specs as c_text
pub use Rattle.c_tree.specs as c_tree
pub use Rattle.fortran_text.specs.f_tree
pub use Rattle.faithful.specs as faithful
pub use Rattle.fortran_text.specs as fortran_text
