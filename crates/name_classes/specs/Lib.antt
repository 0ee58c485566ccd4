pub mod StatedNames
pub mod KnownSigns
