pub mod Pieces
pub mod Sequences
pub mod Costs
pub mod Savings
pub mod Apart
pub mod Held
pub mod Objects
pub mod Stored
pub mod Emission
pub mod Frames
pub mod Runs
pub mod Told
pub mod ExampleParts
pub mod ExampleLaws
pub mod KeptExampleLaws
pub use Rattle.unit_file_laws.proofs as unit_file_laws
pub use Rattle.unit_file_laws.proofs.unit_places
