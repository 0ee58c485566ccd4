pub mod BehindUnits
pub use Rattle.behind_flow.specs as behind_flow
