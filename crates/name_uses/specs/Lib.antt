pub mod UsesSeen
