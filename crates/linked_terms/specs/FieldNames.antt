-- The name of the field that an expression names (C89, 3.3.2.3).
use Rattle.std.specs.Prelude.{ℕ, List}
use Rattle.linked_terms.specs.ListFields.{name_of_field}
use Rattle.linked_terms.specs.declared.field_names.FieldName.{FieldName}
use Rattle.linked_terms.specs.declared.field_names.FieldName.TheVariants as named

abbrev pub name_in : FieldName → List ℕ
name_in (named.Listed field) = name_of_field field
name_in (named.Unlisted name) = name.text
