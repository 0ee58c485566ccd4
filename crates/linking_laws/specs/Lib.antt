pub mod Linked
pub use Rattle.c_structure_laws.specs.c_structure
pub use Rattle.c_structure_laws.specs as c_structure_laws
pub use Rattle.c_structure_laws.specs.c_tree
pub use Rattle.c_structure_laws.specs.run_state
pub use Rattle.c_structure_laws.specs.simulation
