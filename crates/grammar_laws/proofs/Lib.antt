pub mod ControlExact
pub mod DeclarationExact
mod ExpressionComplete
pub mod ExpressionExact
mod ExpressionFacts
pub mod ExpressionFollows
mod ExpressionRowLaws
mod ExpressionSound
pub mod FileLemmas
pub mod FormExact
pub mod FormKnown
pub mod FormTests
pub mod ListExact
pub mod StatementExact
pub mod StatementLaws
pub mod StatementRowLaws
pub mod StatementTextLaws
