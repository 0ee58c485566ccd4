pub mod BodyLemmas
pub mod LabelLemmas
pub mod NestLemmas
