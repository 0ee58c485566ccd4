pub mod Worlds
pub mod Begins
pub mod Known
pub mod Steps
pub mod Transferring
pub mod ExampleLaws
pub mod Simulated
pub use Rattle.c_emit_laws.proofs as c_emit_laws
pub use Rattle.c_emit_laws.proofs.c_image_laws
pub use Rattle.c_emit_laws.proofs.c_laws
pub use Rattle.output_laws.proofs as output_laws
