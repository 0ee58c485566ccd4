pub mod UseForms
pub mod UseWalks
pub mod ItemForms
pub mod Headings
pub mod BodyForms
pub mod ArrayLemmas
pub use Rattle.found_rows.proofs as found_rows
pub use Rattle.name_table.proofs as name_table
