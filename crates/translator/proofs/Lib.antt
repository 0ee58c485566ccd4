pub mod FormLemmas
pub mod Agreement
pub mod NameLemmas
pub mod HeadingLemmas
pub mod BoundLemmas
pub mod ToldUnits
mod FewBounds
pub mod FitLemmas
pub mod RowLemmas
pub mod TestLemmas
pub mod TextLemmas
pub mod UnitLemmas
pub mod FileLemmas
pub mod ListLemmas
pub mod ProcedureLemmas
pub mod SetLemmas
pub mod WholeLemmas
