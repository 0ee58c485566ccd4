pub mod UnitFacts
