pub mod LoopForms
pub mod LoopEnds
pub mod FirstLoops
pub mod OpenRanges
