pub mod Standing
pub mod Forest
pub use Rattle.f_tree.specs as f_tree
