pub mod SourceAnswers
