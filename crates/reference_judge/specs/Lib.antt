pub mod ArgumentsSeen
pub mod ReferencesSeen
pub mod KnownBindings
pub mod FirstShapes
pub mod PassedFunctions
