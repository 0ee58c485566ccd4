mod ColumnLaws
mod BlankLaws
mod FieldLaws
