pub mod UnitsFaithful
