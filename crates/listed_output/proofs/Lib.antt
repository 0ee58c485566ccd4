pub mod RowLaws
pub mod WriteLaws
pub mod PutLaws
pub mod ItemLaws
pub mod CallLaws
pub mod OrderLaws
