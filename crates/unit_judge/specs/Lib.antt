pub mod UnitTables
pub mod UnitParts
