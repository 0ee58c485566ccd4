pub mod RankForms
pub mod OtherForms
pub mod BeforeForms
pub mod UseSets
pub mod OrderLemmas
