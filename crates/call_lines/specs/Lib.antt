pub mod LineShapes
pub mod FindingLines
