pub mod CheckedSources
pub use Rattle.agreeing_calls.specs.agreeing_runs
