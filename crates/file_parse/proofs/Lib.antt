pub mod StatementLemmas
pub mod UnitLemmas
pub mod FirstRowLemmas
pub mod FirstRefusalLemmas
pub mod OpenBlockLemmas
pub mod NestLemmas
pub mod IncludeLemmas
pub mod SpliceLemmas
