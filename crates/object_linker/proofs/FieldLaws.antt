-- Fields by what they hold.
use Rattle.std.proofs.Common.{◌≡◌, refl, ap, sym, ◌∙◌, ℕ, ◌+◌, List, [], ◌∷◌, map, pos, Some}
use Rattle.c_tree.specs.declared.outcome.CValue.{CValue}
use Rattle.c_tree.specs.declared.declaration.CField.{CField}
use Rattle.c_tree.specs.declared.declaration.CField.TheVariants as given
use Rattle.c_tree.specs.Access.{FieldKind, FieldOf}
use Rattle.c_tree.specs.Drafts.{Scope}
use Rattle.c_tree.specs.Declarations.{field_number, field_values}
use Rattle.object_linker.specs.FieldValues.{kind_of, value_by, strings_by, values_by}

-- the fields of a list start as what they hold tells
pub fields-by : (scope : Scope) (n : ℕ) (declared : List FieldOf) (fields : List CField) → field_values scope n declared fields ≡ values_by scope n (map kind_of declared) fields
fields-by scope n [] fields = refl
fields-by scope n (one ∷ later) [] = ap (λ rest. Some (field_number one.kind (pos 0)) ∷ rest) (fields-by scope n later [])
fields-by scope n (one ∷ later) (given.Number number ∷ fields) = ap (λ rest. value_by scope n one.kind (given.Number number) ∷ rest) (fields-by scope n later fields)
fields-by scope n (one ∷ later) (given.Str bytes ∷ fields) = ap (λ rest. value_by scope n one.kind (given.Str bytes) ∷ rest) (fields-by scope (n + 1) later fields)
fields-by scope n (one ∷ later) (given.Name name ∷ fields) = ap (λ rest. value_by scope n one.kind (given.Name name) ∷ rest) (fields-by scope n later fields)

pub ruleset field_laws = (fields-by)
