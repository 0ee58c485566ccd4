pub mod CallSources
