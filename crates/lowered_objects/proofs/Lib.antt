pub mod ExpressionObjects
pub mod StatementObjects
pub mod UnitObjects
