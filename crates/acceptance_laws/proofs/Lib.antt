pub mod OwnStorage
mod Phases
pub mod Whole
