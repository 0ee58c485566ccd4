pub mod BoundedObjects
pub use Rattle.built_strings.specs as built_strings
pub use Rattle.emitted_strings.specs as emitted_strings
pub use Rattle.linked_sizes.specs as linked_sizes
pub use Rattle.lowered_objects.specs as lowered_objects
pub use Rattle.object_bytes.specs as object_bytes
pub use Rattle.plain_units.specs as plain_units
pub use Rattle.step_bounds.specs as step_bounds
