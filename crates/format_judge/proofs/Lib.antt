pub mod LiteralForms
pub mod FormatForms
pub mod FormatLaws
