pub use Rattle.declaration_rows.specs as declaration_rows
