pub mod ToldHeadings
pub mod ToldProcedures
pub mod ToldNames
