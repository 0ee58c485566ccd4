pub mod Mentioned
pub mod Definitions
pub mod Mains
pub mod Missing
pub mod Rules
