pub mod UndeclaredLaws
pub mod RowLemmas
pub mod HeadLemmas
