pub mod SettingChecks
pub mod SettingExamples
