pub mod Fails
pub mod PrototypeFiles
pub mod Listing
pub mod CheckSteps
pub mod CheckEnds
pub use Rattle.call_lines.specs as call_lines
pub use Rattle.call_shapes.specs as call_shapes
pub use Rattle.source_files.specs.source_acceptance
pub use Rattle.source_files.specs as source_files
pub use Rattle.source_files.specs.source_verdict
