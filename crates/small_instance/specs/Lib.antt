pub mod Store
pub mod SourceLanguage
pub mod MiddleLanguage
pub mod TargetLanguage
pub mod Translation
pub mod Translates
pub mod Aliased
