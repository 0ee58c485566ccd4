pub mod Writing
mod Lines
