pub mod DeclarationBlockLemmas
pub mod DeclarationLemmas
