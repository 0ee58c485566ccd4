pub mod BoundedSteps
pub use Rattle.built_sizes.specs as built_sizes
pub use Rattle.read_sizes.specs as read_sizes
pub use Rattle.translated_files.specs as translated_files
