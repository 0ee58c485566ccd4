pub use Rattle.simulation.proofs as simulation
