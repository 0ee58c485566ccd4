pub mod UnitPlaces
pub use Rattle.main_file_laws.specs.c_emit
pub use Rattle.main_file_laws.specs.c_image
pub use Rattle.main_file_laws.specs.c_structure
pub use Rattle.main_file_laws.specs.c_structure_laws
pub use Rattle.main_file_laws.specs.c_tree
pub use Rattle.main_file_laws.specs.emitted_names
pub use Rattle.main_file_laws.specs.f_tree
pub use Rattle.main_file_laws.specs.l_core
pub use Rattle.main_file_laws.specs.linking_laws
pub use Rattle.main_file_laws.specs.main_file
pub use Rattle.unit_sites.specs.procedure_emission
pub use Rattle.unit_sites.specs.unit_file
pub use Rattle.unit_sites.specs as unit_sites
