pub mod Numbers
pub mod LibraryFunctions
pub mod Types
pub mod Calls
pub mod Flats
pub use Rattle.c_image.specs as c_image
pub use Rattle.c_image.specs.c_tree
pub use Rattle.l_core.specs.f_tree
pub use Rattle.c_image.specs.faithful
pub use Rattle.l_core.specs as l_core
pub use Rattle.l_core.specs.run_state
pub use Rattle.l_core.specs.simulation
