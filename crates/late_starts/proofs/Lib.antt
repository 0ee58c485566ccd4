pub mod LateFollows
pub use Rattle.simulation.proofs as simulation
