pub mod BoundForms
pub mod NamesInBounds
pub mod ToldBounds
