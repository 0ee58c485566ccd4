pub mod PlainExpressions
pub mod PlainItems
