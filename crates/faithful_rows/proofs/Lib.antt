pub mod Checks
pub mod PairProofs
pub mod ValueProofs
pub mod BulletProofs
