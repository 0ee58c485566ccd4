pub mod Numbers
pub mod TermNumbers
pub mod ObjectNames
pub mod ValuesAgree
pub mod KnownSteps
pub mod StepsAgree
pub use Rattle.named_items.proofs as named_items
