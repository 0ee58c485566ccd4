pub mod ControlLemmas
