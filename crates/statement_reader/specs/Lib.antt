pub mod ReadStatements
