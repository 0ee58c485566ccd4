pub mod TranslatedSource
