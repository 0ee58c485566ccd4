pub mod FirstObjects
