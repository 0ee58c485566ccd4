pub mod EmittedStrings
pub use Rattle.built_strings.specs as built_strings
pub use Rattle.item_emission.specs as item_emission
pub use Rattle.lowered_objects.specs as lowered_objects
