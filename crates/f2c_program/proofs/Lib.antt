mod OriginLemmas
mod PlaceLemmas
mod Rows
mod CheckRowLemmas
mod SplitRowLemmas
mod TranslateRowLemmas
mod HostRowLemmas
mod UsageLemmas
