pub mod BoundForms
pub mod BoundLaws
pub mod KindLemmas
pub mod HeadLemmas
