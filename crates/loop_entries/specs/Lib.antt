pub mod ReadLines
pub mod Walks
pub mod LoopRanges
pub mod NextArms
pub mod PassedLabels
pub mod Branches
