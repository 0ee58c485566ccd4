pub mod PartForms
pub mod CallForms
pub use Rattle.found_rows.proofs as found_rows
