pub mod UnitsBehind
