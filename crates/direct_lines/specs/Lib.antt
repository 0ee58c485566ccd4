pub mod Definitions
pub mod References
pub mod Assignments
pub mod DirectStatements
