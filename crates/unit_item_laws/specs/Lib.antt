pub mod AgreeingUnits
pub use Rattle.unit_file_laws.specs as unit_file_laws
