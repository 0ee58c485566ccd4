pub mod StandsLaws
pub mod Rising
pub mod Joining
pub mod Tying
pub mod Checked
