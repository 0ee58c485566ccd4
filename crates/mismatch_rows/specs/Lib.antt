pub mod MismatchSources
