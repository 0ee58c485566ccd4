pub mod FileTrees
pub mod FirstRefusals
pub mod OpenBlocks
pub mod ReadSoFar
pub mod Splices
