pub mod NumbersBehind
pub mod LinkedFunctions
pub mod NamesBehind
pub mod FreshObjects
pub mod FrameParts
