pub mod Unread
pub mod RunRows
