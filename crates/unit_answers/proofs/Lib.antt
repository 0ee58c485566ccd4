pub mod FailureLaws
pub mod AnswerLaws
pub mod CallLaws
pub mod OrLemmas
pub use Rattle.f2c_outside.proofs as f2c_outside
