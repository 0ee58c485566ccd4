pub mod Example
pub mod EmittedNumbers
pub mod EmittedSteps
pub mod EmittedTypes
pub mod EmittedFlats
pub use Rattle.c_emit.specs as c_emit
pub use Rattle.c_emit.specs.c_image
pub use Rattle.c_image_laws.specs as c_image_laws
pub use Rattle.c_emit.specs.l_core
