pub mod FieldValues
