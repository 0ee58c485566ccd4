pub mod Made
pub mod HasOne
