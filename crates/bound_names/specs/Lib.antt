pub mod BoundNames
pub use Rattle.fortran_laws.specs.f_tree
