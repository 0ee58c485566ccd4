pub mod FoundLaws
pub mod JudgedForms
pub use Rattle.kind_order.proofs as kind_order
