pub mod World
pub mod Standing
pub mod Held
pub mod Addresses
pub mod Operations
pub mod Elements
pub mod Knowing
pub mod Passing
pub use Rattle.faithful.specs.c_tree
pub use Rattle.faithful.specs.f_tree
pub use Rattle.faithful.specs as faithful
