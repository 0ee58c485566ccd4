pub mod BoundValues
pub mod SizeValues
pub mod FixedValues
