pub mod CaseLaws
pub mod Choices
pub mod ExampleLaws
pub mod FlatLaws
pub mod LabelLaws
pub mod KeptLaws
pub mod ComputedNumbers
pub mod ComputedLaws
pub mod FittingNumbers
pub mod HeldNumbers
pub mod NumberLaws
pub mod SubscriptLaws
pub mod StepLaws
pub mod TypeLaws
pub use Rattle.c_image_laws.proofs as c_image_laws
pub use Rattle.c_image_laws.proofs.c_laws
