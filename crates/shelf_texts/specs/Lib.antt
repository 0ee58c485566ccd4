pub mod ShelfLoops
pub mod Messages
