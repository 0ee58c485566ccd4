pub mod CaseReader
pub mod LabelTests
pub mod Opened
pub mod PartReader
pub mod StatementReader
pub use Rattle.c_readers.specs as c_readers
pub use Rattle.c_readers.specs.c_tree
pub use Rattle.c_readers.specs.grammar
