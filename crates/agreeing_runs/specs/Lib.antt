pub mod AgreeingForms
pub mod Mismatches
pub use Rattle.fortran_totality.specs.f_tree
