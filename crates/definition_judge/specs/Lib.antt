pub mod KnownFunctions
