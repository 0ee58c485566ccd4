pub mod TermForms
pub mod DraftForms
pub mod PartLaws
pub mod ArgumentLaws
pub mod MentionForms
