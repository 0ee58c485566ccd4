pub mod Outputs
pub mod Forms
pub use Rattle.proto_file.specs.prototypes
