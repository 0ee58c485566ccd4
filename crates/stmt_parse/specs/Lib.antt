pub mod StatementSteps
pub use Rattle.expression_parse.specs as expression_parse
