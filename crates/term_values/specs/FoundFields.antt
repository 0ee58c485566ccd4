-- A field of a list that was found (f2c.h).
use Rattle.c_tree.specs.Access.{FieldAt}
use Rattle.run_bytes.specs.Accesses.{field_kind}
use Rattle.term_values.specs.declared.fields.FoundField.{FoundField}

abbrev pub found_of : FoundField → FieldAt
found_of found = record { number = found.number; kind = field_kind found.holds }
