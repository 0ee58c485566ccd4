pub mod CallReader
pub mod DeclarationReader
pub mod ExpressionReader
pub mod HeadReader
pub mod ListReader
pub mod Opened
pub mod Readers
pub mod TypeReader
pub mod ValueReader
pub use Rattle.c_tree.specs as c_tree
pub use Rattle.grammar.specs as grammar
