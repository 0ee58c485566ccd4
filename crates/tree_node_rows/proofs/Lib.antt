pub mod ExampleRows
