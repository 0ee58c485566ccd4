pub mod FilesInOrder
pub mod SourceAnswers
