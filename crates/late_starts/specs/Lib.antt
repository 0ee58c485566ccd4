pub mod LateStarts
pub use Rattle.simulation.specs as simulation
