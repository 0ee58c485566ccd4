pub mod ConstantTexts
pub mod ReadingSteps
pub mod WantedLemmas
pub mod WholeReadings
pub use Rattle.grammar_laws.proofs as grammar_laws
