mod OutputLemmas
mod FormLemmas
pub mod FrontLemmas
