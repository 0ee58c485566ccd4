pub mod KnownNames
pub mod LengthsSeen
pub mod FaultsSeen
pub mod ItemsSeen
