pub mod Listed
pub mod Known
pub mod CallNames
pub mod Passed
pub mod BuiltItems
pub use Rattle.unit_places.proofs.linking_laws
pub use Rattle.unit_places.proofs.main_file_laws
pub use Rattle.unit_places.proofs as unit_places
