pub mod FirstRow
