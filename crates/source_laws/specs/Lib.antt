pub mod SourceStatements
