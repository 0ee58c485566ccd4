pub mod StepFactors
pub mod References
pub mod KeptCounts
pub mod Units
pub mod Bounds
