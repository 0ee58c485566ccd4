pub mod LinkedUnits
pub mod Beginning
pub mod Standing
pub mod Together
