-- The fields of a list as they are given, one after the other, what they start with (C89, 3.5.7).
use Rattle.std.proofs.Common.{◌≡◌, ℕ, ◌+◌, ◌<◌, ◌≤◌, true, List, length, Option, Some, None, refl, ap, sym, ◌∙◌, if◌then◌else◌, arith, add-one}
use Rattle.std.specs.Prelude.{slice_get, slice_set, nat_le, Ok}
use Rattle.std.proofs.lemmas.Bool.Decides.{nat_tests}
use Rattle.std.proofs.lemmas.List.{set-set}
use Rattle.c_tree.specs.declared.outcome.CValue.{CValue}
use Rattle.c_tree.specs.declared.outcome.CValue.TheVariants.{Pointer}
use Rattle.c_tree.specs.declared.outcome.CFault.TheVariants.{Outside}
use Rattle.c_tree.specs.declared.types.ListType.{ListType}
use Rattle.c_tree.specs.Access.{ToField, ToList, NumberField}
use Rattle.c_tree.specs.Faults.{after, failing}
use Rattle.c_tree.specs.Objects.{Object, Values, with_value, put_object, store_through}
use Rattle.c_tree.specs.Declarations.{unset_values}
use Rattle.started_objects.specs.FirstObjects.{HasField}
use Rattle.started_objects.proofs.LateLists.{late_to, next-put, next-same, all-late, put-same, put-get, length-late, all-same, all-one}

-- ## One field

value-put : (type : ListType) (values : List (Option CValue)) (offset : ℕ) (value : CValue) → offset < length values →
    with_value offset value (record { type = ToList type; values = values }) ≡ Ok (Values (record { type = ToList type; values = slice_set values offset (Some value) }))
value-put type values offset value within =
    let is : nat_le (offset + 1) (length values) ≡ true = grind (arith, nat_tests) in
    ap (λ test. if test then Ok (Values (record { type = ToList type; values = slice_set values offset (Some value) })) else failing Outside) is

field-put : (objects : List Object) (number offset : ℕ) (value : CValue) (type : ListType) (values : List (Option CValue)) →
    slice_get objects number ≡ Some (Values (record { type = ToList type; values = values })) → offset < length values →
    store_through objects (Pointer number offset) (ToField NumberField) value ≡ Ok (slice_set objects number (Values (record { type = ToList type; values = slice_set values offset (Some value) })))
field-put objects number offset value type values there within =
    ap (λ known. after (put_object (ToField NumberField) offset value known) λ changed. Ok (slice_set objects number changed)) there
    ∙ ap (λ made. after made λ changed. Ok (slice_set objects number changed)) (value-put type values offset value within)

-- ## All fields

-- a list of which so many fields were given what they start with
abbrev pub values-to : ℕ → List (Option CValue) → List (Option CValue)
values-to n fields = late_to (λ field. field) (λ field. None) n fields

abbrev pub list-to : ListType → ℕ → List (Option CValue) → Object
list-to type n fields = Values (record { type = ToList type; values = values-to n fields })

pub list-first : (objects : List Object) (number : ℕ) (fields : List (Option CValue)) (type : ListType) → slice_get objects number ≡ Some (unset_values (ToList type) (length fields)) →
    objects ≡ slice_set objects number (list-to type 0 fields)
list-first objects number fields type there =
    sym (put-same objects number (list-to type 0 fields)
    (there ∙ ap (λ values. Some (Values (record { type = ToList type; values = values }))) (sym (all-one None fields))))

-- the list stands among the objects that are as they were but for it
list-there : (old run : List Object) (number offset : ℕ) (fields : List (Option CValue)) (type : ListType) → slice_get old number ≡ Some (unset_values (ToList type) (length fields)) →
    run ≡ slice_set old number (list-to type offset fields) → slice_get run number ≡ Some (list-to type offset fields)
list-there old run number offset fields type there is =
    ap (λ objects. slice_get objects number) is ∙ put-get old number (list-to type offset fields) (unset_values (ToList type) (length fields)) there

pub field-ready : (old run : List Object) (number offset : ℕ) (fields : List (Option CValue)) (type : ListType) → slice_get old number ≡ Some (unset_values (ToList type) (length fields)) →
    run ≡ slice_set old number (list-to type offset fields) → offset < length fields → HasField run number offset
field-ready old run number offset fields type there is within =
    let count : length (values-to offset fields) ≡ length fields = length-late (λ field. field) (λ field. None) offset fields in
    record {
      type = type;
      values = values-to offset fields;
      there = list-there old run number offset fields type there is;
      within = omega (arith, within, count);
    }

pub field-given : (old run new : List Object) (number offset : ℕ) (fields : List (Option CValue)) (value : CValue) (type : ListType) → slice_get old number ≡ Some (unset_values (ToList type) (length fields)) →
    run ≡ slice_set old number (list-to type offset fields) → slice_get fields offset ≡ Some (Some value) → offset < length fields →
    store_through run (Pointer number offset) (ToField NumberField) value ≡ Ok new → new ≡ slice_set old number (list-to type (offset + 1) fields)
field-given old run new number offset fields value type there is at within stores =
    let count : length (values-to offset fields) ≡ length fields = length-late (λ field. field) (λ field. None) offset fields in
    let changed : Object = Values (record { type = ToList type; values = slice_set (values-to offset fields) offset (Some value) }) in
    let made : Ok (slice_set run number changed) ≡ Ok new =
    sym (field-put run number offset value type (values-to offset fields) (list-there old run number offset fields type there is) (omega (arith, within, count))) ∙ stores in
    let same : slice_set run number changed ≡ new = cc in
    sym same
    ∙ ap (λ objects. slice_set objects number changed) is
    ∙ set-set old number (list-to type offset fields) changed
    ∙ ap (λ values. slice_set old number (Values (record { type = ToList type; values = values })))
    (next-put (λ field. field) (λ field. None) fields offset (Some value) at ∙ ap (λ n. values-to n fields) (sym (add-one offset)))

pub field-unset : (old run : List Object) (number offset : ℕ) (fields : List (Option CValue)) (type : ListType) → run ≡ slice_set old number (list-to type offset fields) →
    slice_get fields offset ≡ Some None → run ≡ slice_set old number (list-to type (offset + 1) fields)
field-unset old run number offset fields type is at =
    is
    ∙ ap (λ values. slice_set old number (Values (record { type = ToList type; values = values })))
    (next-same (λ field. field) (λ field. None) fields offset None at refl ∙ ap (λ n. values-to n fields) (sym (add-one offset)))

pub list-whole : (old run : List Object) (number n : ℕ) (fields : List (Option CValue)) (type : ListType) → run ≡ slice_set old number (list-to type n fields) → length fields ≤ n →
    run ≡ slice_set old number (Values (record { type = ToList type; values = fields }))
list-whole old run number n fields type is all =
    is ∙ ap (λ values. slice_set old number (Values (record { type = ToList type; values = values }))) (all-late (λ field. field) (λ field. None) fields n all ∙ all-same fields)
