pub mod ArmLaws
pub mod StringEquations
