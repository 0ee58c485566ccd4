pub mod PlainUnitFiles
pub use Rattle.unit_faithfulness.specs as unit_faithfulness
