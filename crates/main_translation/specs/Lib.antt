pub mod Flow
pub mod Contents
pub mod Outlined
pub use Rattle.main_file.specs.c_emit
pub use Rattle.main_file.specs.c_image
pub use Rattle.main_file.specs.c_structure
pub use Rattle.main_file.specs.c_tree
pub use Rattle.main_file.specs.f_tree
pub use Rattle.main_file.specs.faithful
pub use Rattle.main_file.specs.l_core
pub use Rattle.main_file.specs as main_file
pub use Rattle.main_file.specs.run_state
