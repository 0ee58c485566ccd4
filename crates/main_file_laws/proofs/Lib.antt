pub mod Listed
pub mod Known
pub mod BuiltItems
pub use Rattle.linking_laws.proofs.c_laws
pub use Rattle.linking_laws.proofs.c_structure_laws
pub use Rattle.emitted_names.proofs as emitted_names
pub use Rattle.linking_laws.proofs as linking_laws
