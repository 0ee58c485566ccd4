pub mod Bodies
pub mod StopTexts
pub mod UnitBytes
pub mod FileBytes
