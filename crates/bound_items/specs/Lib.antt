pub mod BoundItems
