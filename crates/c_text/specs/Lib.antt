pub mod Strings
pub mod Types
pub mod Lists
pub mod Operators
pub mod Phrases
pub mod Expressions
pub mod Declarations
pub mod Printed
pub mod Opened
pub use Rattle.c_tree.specs as c_tree
