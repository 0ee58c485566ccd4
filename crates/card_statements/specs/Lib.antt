pub mod CardStatements
pub use Rattle.source_acceptance.specs as source_acceptance
