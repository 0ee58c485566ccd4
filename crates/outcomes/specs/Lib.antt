pub mod Outcomes
pub mod Lines
