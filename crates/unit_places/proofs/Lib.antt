pub mod Declared
pub mod Placing
pub mod Sites
pub use Rattle.main_file_laws.proofs.c_structure_laws
pub use Rattle.main_file_laws.proofs.emitted_names
pub use Rattle.main_file_laws.proofs.linking_laws
pub use Rattle.main_file_laws.proofs as main_file_laws
