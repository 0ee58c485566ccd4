pub mod NumberingLaws
pub mod TieLaws
pub mod RowLaws
pub mod FrontLaws
