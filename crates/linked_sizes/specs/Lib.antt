pub mod LinkedSizes
pub use Rattle.built_strings.specs as built_strings
pub use Rattle.main_file.specs.c_tree
pub use Rattle.unit_sites.specs as unit_sites
pub use Rattle.unit_sites.specs.unit_file
