pub mod KnownUnits
pub mod ProcedureNames
pub mod BuiltUnits
pub use Rattle.unit_places.specs.linking_laws
pub use Rattle.unit_places.specs.procedure_emission
pub use Rattle.unit_places.specs.unit_file
pub use Rattle.unit_places.specs as unit_places
pub use Rattle.unit_places.specs.unit_sites
