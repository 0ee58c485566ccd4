pub mod Reaching
pub mod Completed
pub mod Contradicting
pub use Rattle.offset_classes.proofs as offset_classes
