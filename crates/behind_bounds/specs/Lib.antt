pub mod BehindBounds
