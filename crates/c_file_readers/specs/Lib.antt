pub mod FileReader
pub mod ObjectReader
pub mod Opened
pub use Rattle.c_statement_readers.specs.c_readers
pub use Rattle.c_statement_readers.specs as c_statement_readers
pub use Rattle.c_statement_readers.specs.c_tree
pub use Rattle.c_statement_readers.specs.grammar
