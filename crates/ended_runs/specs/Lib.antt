pub mod EndedRuns
pub use Rattle.faithful.specs.c_tree
pub use Rattle.faithful.specs as faithful
pub use Rattle.faithful.specs.f_tree
