pub mod NestStatements
pub mod RangeActStatements
pub use Rattle.f_tree.specs.edit_meaning
pub use Rattle.f_tree.specs as f_tree
pub use Rattle.f_tree.specs.run_state
pub use Rattle.f_tree.specs.simulation
