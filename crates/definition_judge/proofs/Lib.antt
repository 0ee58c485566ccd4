pub mod TableLemmas
pub mod DummyLemmas
pub mod SeenLaws
pub mod DefinitionLaws
pub mod GivenLaws
pub mod FunctionLemmas
