pub mod Settings
pub mod Written
pub mod Signed
pub mod Links
pub mod Faithfulness
