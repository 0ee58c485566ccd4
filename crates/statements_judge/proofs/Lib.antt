pub mod FormLemmas
pub mod LabelLemmas
pub mod LoopLemmas
pub mod GuardLemmas
pub mod RowLemmas
