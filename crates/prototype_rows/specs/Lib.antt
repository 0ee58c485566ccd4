pub mod SummingSource
