pub mod CallsSeen
pub mod KnownUnits
pub mod ProceduresSeen
