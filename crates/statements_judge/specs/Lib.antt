pub mod UnitLabels
pub mod UnitLoops
