pub mod Expressions
pub mod Statements
pub mod Units
pub use Rattle.l_core.specs as l_core
