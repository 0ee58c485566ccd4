pub mod ControlReading
pub mod DeclarationReading
pub mod Exactness
pub mod ExpressionReading
pub mod ExpressionRows
pub mod ExpressionScans
pub mod ExpressionStatements
pub mod FileStatements
pub mod FormReading
pub mod ListReading
pub mod StatementReader
pub mod StatementReading
pub mod StatementRows
pub mod StatementStatements
pub mod StatementTexts
pub use Rattle.fortran_grammar.specs as fortran_grammar
