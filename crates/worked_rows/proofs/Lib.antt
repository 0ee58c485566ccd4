pub mod FirstRow
pub mod PrintedTexts
