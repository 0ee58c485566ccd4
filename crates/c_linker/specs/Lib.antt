pub mod LinkedFiles
pub mod LinkedParts
