pub mod Answers
pub mod Arguments
pub mod Names
pub mod Pieces
pub mod Reports
pub mod Room
