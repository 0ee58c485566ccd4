pub mod KnownFile
pub mod BuiltMain
pub use Rattle.main_file.specs.c_emit
pub use Rattle.main_file.specs.c_image
pub use Rattle.linking_laws.specs.c_structure
pub use Rattle.linking_laws.specs.c_structure_laws
pub use Rattle.linking_laws.specs.c_tree
pub use Rattle.emitted_names.specs as emitted_names
pub use Rattle.main_file.specs.f_tree
pub use Rattle.main_file.specs.faithful
pub use Rattle.main_file.specs.l_core
pub use Rattle.linking_laws.specs as linking_laws
pub use Rattle.main_file.specs as main_file
pub use Rattle.linking_laws.specs.run_state
pub use Rattle.linking_laws.specs.simulation
