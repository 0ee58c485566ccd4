pub mod ArmLaws
pub mod MentionEquations
