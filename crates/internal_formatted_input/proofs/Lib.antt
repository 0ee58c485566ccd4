pub mod ActLaws
pub mod ReachLaws
pub mod CloseLaws
pub mod ItemLaws
pub mod GiveLaws
pub mod EndLaws
pub mod CallLaws
pub mod StartLaws
