pub mod FactRows
