pub mod MainFile
pub mod MainItems
pub use Rattle.c_emit.specs as c_emit
pub use Rattle.c_emit.specs.c_image
pub use Rattle.c_structure.specs as c_structure
pub use Rattle.c_structure.specs.c_tree
pub use Rattle.c_emit.specs.f_tree
pub use Rattle.c_emit.specs.faithful
pub use Rattle.c_emit.specs.l_core
pub use Rattle.c_structure.specs.run_state
