pub mod WaysBack
pub use Rattle.lowering.specs as lowering
