pub mod StorageImage
pub mod FrameImage
pub mod SameTransfer
pub mod SameState
pub mod Signatures
pub mod UnitsAtStart
pub mod Faithful
pub mod Opened
pub use Rattle.c_tree.specs as c_tree
pub use Rattle.c_tree.specs.edit_meaning
pub use Rattle.f_tree.specs as f_tree
pub use Rattle.c_tree.specs.run_state
pub use Rattle.c_tree.specs.simulation
