pub mod TranslatedRuns
