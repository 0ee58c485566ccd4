pub mod Numbers
pub mod Signatures
pub mod Stacks
pub mod Events
pub mod Outcomes
pub mod UnitsLeft
pub mod Taken
pub mod CallsMade
