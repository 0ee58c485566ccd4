pub mod StatementForms
pub mod LoweredStatements
pub mod StatementOutcomes
pub mod LoopTests
pub mod LoopTurns
pub mod TransferForms
pub mod LoweredTransfers
pub mod ListedLabels
pub use Rattle.name_facts.specs.declaration_rows
pub use Rattle.expression_lowering.specs as expression_lowering
pub use Rattle.f_tree.specs as f_tree
pub use Rattle.lowered_tree.specs.l_core
pub use Rattle.lowering.specs as lowering
