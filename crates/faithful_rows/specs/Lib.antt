pub mod Bullets
pub mod PairWords
pub mod Pairs
pub mod PairRuns
pub use Rattle.faithful.specs.f_tree
pub use Rattle.faithful.specs as faithful
