pub mod DeclarationLaws
pub mod DeclarationRows
pub mod ExpressionLaws
pub mod ExpressionRows
pub use Rattle.c_readers.specs as c_readers
pub use Rattle.c_readers.specs.c_tree
pub use Rattle.c_readers.specs.grammar
