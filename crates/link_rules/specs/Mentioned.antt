-- Whether the fields of a list name one of some functions.
use Rattle.std.specs.Prelude.{Bool, List, [], ◌∷◌}
use Rattle.c_tree.specs.declared.declaration.CField.{CField}
use Rattle.c_tree.specs.Declarations.{field_names}
use Rattle.c_tree.specs.Linking.{any_of}
use Rattle.first_names.specs.declared.FirstNames.{FirstNames}
use Rattle.expression_linker.specs.Mentions.{has}

unfoldable pub in_field : FirstNames (Unit {0}) → CField → Bool
in_field names field = any_of (has names) (field_names (field ∷ []))

unfoldable pub in_fields : FirstNames (Unit {0}) → List CField → Bool
in_fields names fields = any_of (has names) (field_names fields)
