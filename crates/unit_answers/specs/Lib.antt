pub mod Failing
pub mod Answers
pub use Rattle.f2c_outside.specs as f2c_outside
