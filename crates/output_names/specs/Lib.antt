pub mod OutputNames
pub mod WordPlaces
