mod ColumnLaws
mod FieldLaws
