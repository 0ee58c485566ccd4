pub mod PrototypeLaws
pub mod Reading
