pub mod Examples
pub use Rattle.object_bytes.specs as object_bytes
pub use Rattle.object_bytes.specs.f_tree
