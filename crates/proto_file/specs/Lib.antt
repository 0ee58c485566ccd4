pub mod Failures
pub mod Lists
pub mod Parts
pub use Rattle.prototypes.specs as prototypes
