pub mod Runs
pub mod LawProof
pub mod Corollaries
pub mod Composing
pub mod Waiting
