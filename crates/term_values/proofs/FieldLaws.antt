-- A name that is no field of a control list is a field of none of them (f2c.h).
use Rattle.std.specs.Prelude.{◌≡◌, ℕ, zero, suc, Bool, true, false, List, [], ◌∷◌, map, take, drop, Option, Some, None, option_map, bytes_eq, is_none, IsTrue, if◌then◌else◌}
use Rattle.std.proofs.Common.{refl, ap, ◌∙◌}
use Rattle.c_tree.specs.declared.types.ListType.{ListType}
use Rattle.c_tree.specs.declared.types.ListType.TheVariants as list
use Rattle.c_tree.specs.Access.{FieldOf, one_later, field_among, field_named, fields_of}
use Rattle.linked_terms.specs.declared.fields.ListField.{ListField}
use Rattle.linked_terms.specs.declared.field_names.UnlistedName.{UnlistedName}
use Rattle.linked_terms.specs.ListFields.{name_of_field, all_fields, first_named}

-- a name is none of these
abbrev Apart : List ℕ → List (List ℕ) → Type 0
Apart name [] = Unit {0}
Apart name (other ∷ later) = (bytes_eq name other ≡ false) × Apart name later

not-first : (test : Bool) (field : ListField) (later : Option ListField) → (if test then Some field else later) ≡ None → (test ≡ false) × (later ≡ None)
not-first true field later is = absurd (cc)
not-first false field later is = (refl, is)

apart : (name : List ℕ) (fields : List ListField) → first_named name fields ≡ None → Apart name (map name_of_field fields)
unfolding first_named
apart name [] is = tt
apart name (field ∷ later) is =
    let both = not-first (bytes_eq name (name_of_field field)) field (first_named name later) is in
    (both.0, apart name later both.1)

apart-from : (first : ℕ) (name : List ℕ) (names : List (List ℕ)) → Apart name names → Apart name (drop first names)
apart-from zero name names h = h
apart-from (suc first) name [] h = tt
apart-from (suc first) name (other ∷ later) h = apart-from first name later h.1

apart-to : (count : ℕ) (name : List ℕ) (names : List (List ℕ)) → Apart name names → Apart name (take count names)
apart-to zero name names h = tt
apart-to (suc count) name [] h = tt
apart-to (suc count) name (other ∷ later) h = (h.0, apart-to count name later h.1)

none-among : (name : List ℕ) (fields : List FieldOf) → Apart name (map (λ field. field.name) fields) → field_among name fields ≡ None
none-among name [] h = refl
none-among name (field ∷ later) h =
    ap (λ test. if test then Some (record { number = 0; kind = field.kind }) else option_map one_later (field_among name later)) h.0
    ∙ ap (option_map one_later) (none-among name later h.1)

none-within : (first count : ℕ) (name : List ℕ) → first_named name all_fields ≡ None → Apart name (take count (drop first (map name_of_field all_fields)))
none-within first count name is =
    let from = apart-from first name (map name_of_field all_fields) (apart name all_fields is) in
    apart-to count name (drop first (map name_of_field all_fields)) from

listed-nowhere : (name : List ℕ) (list_type : ListType) → first_named name all_fields ≡ None → field_named name list_type ≡ None
listed-nowhere name list.Transfer is = none-among name (fields_of list.Transfer) (none-within 0 5 name is)
listed-nowhere name list.Internal is = none-among name (fields_of list.Internal) (none-within 5 6 name is)
listed-nowhere name list.Open is = none-among name (fields_of list.Open) (none-within 11 9 name is)
listed-nowhere name list.Close is = none-among name (fields_of list.Close) (none-within 20 3 name is)
listed-nowhere name list.Position is = none-among name (fields_of list.Position) (none-within 23 2 name is)

nothing-found : (found : Option ListField) → IsTrue (is_none found) → found ≡ None
nothing-found None h = refl
nothing-found (Some field) h = cc

pub unlisted : (name : UnlistedName) (list_type : ListType) → field_named name.text list_type ≡ None
unlisted name list_type = listed-nowhere name.text list_type (nothing-found (first_named name.text all_fields) name.unlisted)

pub ruleset field_laws = (unlisted)
