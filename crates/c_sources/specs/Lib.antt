pub mod Fails
pub mod CTexts
pub mod CFiles
