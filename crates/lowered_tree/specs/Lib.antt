pub mod Shapes
pub use Rattle.l_core.specs as l_core
