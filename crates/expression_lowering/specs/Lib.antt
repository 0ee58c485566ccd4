pub mod TableNames
pub mod Purposes
pub mod FunctionTable
pub mod LoweredForms
pub mod Outcomes
pub use Rattle.lowered_tree.specs as lowered_tree
pub use Rattle.lowering.specs as lowering
