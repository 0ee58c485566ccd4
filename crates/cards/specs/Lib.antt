pub mod Passes
pub mod Squeezed
pub use Rattle.f_tree.specs as f_tree
pub use Rattle.fortran_text.specs as fortran_text
