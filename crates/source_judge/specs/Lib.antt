pub mod JudgedSource
