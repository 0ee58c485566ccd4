pub mod Agreement
pub mod Items
pub mod Layouts
pub mod SamePlaces
pub mod Structured
pub use Rattle.c_structure.specs as c_structure
