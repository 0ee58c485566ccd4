pub mod Functions
pub mod Told
pub mod ToldUnits
pub use Rattle.named_units.specs as named_units
