pub mod PlainStatements
pub mod Elements
pub mod ToldNames
