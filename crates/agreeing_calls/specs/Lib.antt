pub mod CheckedCalls
pub use Rattle.agreeing_runs.specs as agreeing_runs
pub use Rattle.call_shapes.specs as call_shapes
