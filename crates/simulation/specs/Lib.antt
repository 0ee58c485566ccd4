pub mod Machine
pub mod LocalSimulation
pub mod Law
pub mod Composition
