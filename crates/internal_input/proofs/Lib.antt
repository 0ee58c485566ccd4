pub mod TextLaws
pub mod SeekLaws
pub mod TakeLaws
pub mod StepLaws
pub mod ItemSteps
pub mod CallLaws
pub mod PlaceLaws
pub mod GiveLaws
