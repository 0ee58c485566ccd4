pub mod TreesSeen
