pub mod CardRows
pub mod Strays
pub mod OrderSources
pub mod StorageStrays
