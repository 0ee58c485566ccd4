-- What the fields of a list start with, by what they hold.
use Rattle.std.specs.Prelude.{ℕ, ◌+◌, pos, List, [], ◌∷◌, Option, Some}
use Rattle.c_tree.specs.declared.outcome.CValue.{CValue}
use Rattle.c_tree.specs.declared.outcome.CValue.TheVariants.{Pointer}
use Rattle.c_tree.specs.declared.declaration.CField.{CField}
use Rattle.c_tree.specs.declared.declaration.CField.TheVariants as given
use Rattle.c_tree.specs.Access.{FieldKind, FieldOf}
use Rattle.c_tree.specs.Drafts.{Scope}
use Rattle.c_tree.specs.Declarations.{field_number, constant_of}

abbrev pub kind_of : FieldOf → FieldKind
kind_of field = field.kind

-- what a field starts with, where the next string has this number
abbrev pub value_by : Scope → ℕ → FieldKind → CField → Option CValue
value_by scope next kind (given.Number number) = Some (field_number kind number)
value_by scope next kind (given.Str bytes) = Some (Pointer next 0)
value_by scope next kind (given.Name name) = constant_of (scope name)

-- the number of the string behind a field
abbrev pub strings_by : ℕ → CField → ℕ
strings_by next (given.Number number) = next
strings_by next (given.Str bytes) = next + 1
strings_by next (given.Name name) = next

-- what fields start with
abbrev pub values_by : Scope → ℕ → List FieldKind → List CField → List (Option CValue)
values_by scope next [] fields = []
values_by scope next (kind ∷ kinds) [] = Some (field_number kind (pos 0)) ∷ values_by scope next kinds []
values_by scope next (kind ∷ kinds) (field ∷ fields) = value_by scope next kind field ∷ values_by scope (strings_by next field) kinds fields
