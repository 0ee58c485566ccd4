pub mod BoundValues
pub use Rattle.kept_bounds.specs as kept_bounds
