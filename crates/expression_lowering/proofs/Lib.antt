pub mod CoveredForms
pub mod ReferenceForms
pub mod Closings
pub mod LoweredForms
pub mod Walks
pub mod Agreement
pub mod FormLemmas
