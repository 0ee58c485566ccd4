-- A store keeps the forms of objects (C89, 3.3.16.1).
use Rattle.std.proofs.Common.{◌≡◌, ℕ, zero, suc, ◌+◌, ◌≤◌, ℤ, Bool, true, false, if◌then◌else◌, List, [], ◌∷◌, ◌++◌, length, map, take, drop, Option, Some, None, refl, ap, sym, ◌∙◌, arith, length-append, length-drop}
use Rattle.std.specs.Prelude.{nat_le, nat_eq, ◌%◌, slice_set, slice_get, Result, Ok, Err}
use Rattle.std.specs.Int.{w32, cast_unsigned}
use Rattle.std.proofs.lemmas.Bool.Decides.{nat_tests}
use Rattle.std.proofs.lemmas.List.{length-take-le, length-map, length-set}
use Rattle.c_tree.specs.declared.outcome.CValue.{CValue}
use Rattle.c_tree.specs.declared.outcome.CValue.TheVariants.{Number, Pointer, Null, Function}
use Rattle.c_tree.specs.declared.outcome.CFault.{CFault}
use Rattle.c_tree.specs.declared.outcome.CFault.TheVariants.{Outside, Kind}
use Rattle.c_tree.specs.Faults.{Or, after, failing}
use Rattle.c_tree.specs.Access.{Access, ToNumber, ToChar, ToByte, ToList, ToField, ToPointer, ToFunction, ToNothing}
use Rattle.c_tree.specs.Objects.{Object, Bytes, Values, Held, Place, overlaid, with_bytes, with_value, put_bytes, put_object, holds, converted, store_through, stored, bytes_of_number}
use Rattle.c_tree.specs.Declarations.{unset, unset_values}
use Rattle.run_bytes.specs.Layout.{Stores, unset_object}
use Rattle.item_deeds.specs.Forms.{forms, SameForms}

pub one-replaced : (objects : List Object) (i : ℕ) (new old : Object) → slice_get objects i ≡ Some old → unset_object new ≡ unset_object old →
    forms (slice_set objects i new) ≡ forms objects
one-replaced [] i new old is same = absurd (cc)
one-replaced (first ∷ later) zero new old is same =
    let here : old ≡ first = cc in ap (λ form. form ∷ forms later) (same ∙ ap unset_object here)
one-replaced (first ∷ later) (suc i) new old is same = ap (λ rest. unset_object first ∷ rest) (one-replaced later i new old is same)

length-overlaid : (offset : ℕ) (new : List ℕ) (bytes : List (Option ℕ)) → offset + length new ≤ length bytes → length (overlaid offset new bytes) ≡ length bytes
length-overlaid offset new bytes within =
    omega (
      arith,
      length-append (take offset bytes ++ map Some new) (drop (offset + length new) bytes),
      length-append (take offset bytes) (map Some new),
      length-take-le offset bytes (omega arith),
      length-map new Some,
      length-drop (offset + length new) bytes,
    )

bytes-tested : (test : Bool) (offset : ℕ) (new : List ℕ) (bytes : List (Option ℕ)) (changed : Object) → nat_le (offset + length new) (length bytes) ≡ test →
    (if test then Ok (Bytes (overlaid offset new bytes)) else failing Outside) ≡ Ok changed → unset_object changed ≡ unset (length bytes)
bytes-tested true offset new bytes changed tested is =
    let made : Bytes (overlaid offset new bytes) ≡ changed = cc in
    let within : offset + length new ≤ length bytes = grind (arith, nat_tests) in
    ap unset_object (sym made) ∙ ap unset (length-overlaid offset new bytes within)
bytes-tested false offset new bytes changed tested is = absurd (cc)

bytes-kept : (offset : ℕ) (new : List ℕ) (bytes : List (Option ℕ)) (changed : Object) → with_bytes offset new bytes ≡ Ok changed → unset_object changed ≡ unset (length bytes)
bytes-kept offset new bytes changed is = bytes-tested (nat_le (offset + length new) (length bytes)) offset new bytes changed refl is

number-tested : (test : Bool) (offset : ℕ) (number : ℤ) (bytes : List (Option ℕ)) (changed : Object) →
    (if test then with_bytes offset (bytes_of_number number) bytes else failing Outside) ≡ Ok changed → unset_object changed ≡ unset (length bytes)
number-tested true offset number bytes changed is = bytes-kept offset (bytes_of_number number) bytes changed is
number-tested false offset number bytes changed is = absurd (cc)

put-kept : (access : Access) (offset : ℕ) (value : CValue) (bytes : List (Option ℕ)) (changed : Object) → put_bytes access offset value bytes ≡ Ok changed →
    unset_object changed ≡ unset (length bytes)
put-kept ToNumber offset (Number number) bytes changed is = number-tested (nat_eq (offset % 4) 0) offset number bytes changed is
put-kept ToByte offset (Number number) bytes changed is = bytes-kept offset (cast_unsigned w32 number % 256 ∷ []) bytes changed is
put-kept ToNumber offset (Pointer object at) bytes changed is = absurd (cc)
put-kept ToNumber offset Null bytes changed is = absurd (cc)
put-kept ToNumber offset (Function number) bytes changed is = absurd (cc)
put-kept ToByte offset (Pointer object at) bytes changed is = absurd (cc)
put-kept ToByte offset Null bytes changed is = absurd (cc)
put-kept ToByte offset (Function number) bytes changed is = absurd (cc)
put-kept ToChar offset value bytes changed is = absurd (cc)
put-kept (ToList type) offset value bytes changed is = absurd (cc)
put-kept (ToField kind) offset value bytes changed is = absurd (cc)
put-kept (ToPointer through) offset value bytes changed is = absurd (cc)
put-kept ToFunction offset value bytes changed is = absurd (cc)
put-kept ToNothing offset value bytes changed is = absurd (cc)

value-tested : (test : Bool) (offset : ℕ) (value : CValue) (held : Held) (changed : Object) →
    (if test then Ok (Values (record held { values = slice_set held.values offset (Some value) })) else failing Outside) ≡ Ok changed →
    unset_object changed ≡ unset_object (Values held)
value-tested true offset value held changed is =
    let made : Values (record held { values = slice_set held.values offset (Some value) }) ≡ changed = cc in
    ap unset_object (sym made) ∙ ap (unset_values held.type) (length-set held.values offset (Some value))
value-tested false offset value held changed is = absurd (cc)

values-kept : (test : Bool) (offset : ℕ) (value : CValue) (held : Held) (changed : Object) → (if test then with_value offset value held else failing Kind) ≡ Ok changed →
    unset_object changed ≡ unset_object (Values held)
values-kept true offset value held changed is = value-tested (nat_le (offset + 1) (length held.values)) offset value held changed is
values-kept false offset value held changed is = absurd (cc)

object-kept : (access : Access) (offset : ℕ) (value : CValue) (object changed : Object) → put_object access offset value (Some object) ≡ Ok changed →
    unset_object changed ≡ unset_object object
object-kept access offset value (Bytes bytes) changed is = put-kept access offset value bytes changed is
object-kept access offset value (Values held) changed is = values-kept (holds held.type access) offset value held changed is

object-set : (objects new : List Object) (i offset : ℕ) (access : Access) (value : CValue) (known : Option Object) (made : Or Object) → slice_get objects i ≡ known →
    put_object access offset value known ≡ made → after made (λ changed. Ok (slice_set objects i changed)) ≡ Ok new → forms new ≡ forms objects
object-set objects new i offset access value None made found is sets = absurd (cc)
object-set objects new i offset access value (Some object) (Ok changed) found is sets =
    let set_there : slice_set objects i changed ≡ new = cc in
    ap forms (sym set_there) ∙ one-replaced objects i changed object found (object-kept access offset value object changed is)
object-set objects new i offset access value (Some object) (Err reason) found is sets = absurd (cc)

through-kept : (objects new : List Object) (at : CValue) (access : Access) (value : CValue) → store_through objects at access value ≡ Ok new → forms new ≡ forms objects
through-kept objects new (Pointer object offset) access value is = object-set objects new object offset access value (slice_get objects object) _ refl refl is
through-kept objects new Null access value is = absurd (cc)
through-kept objects new (Number number) access value is = absurd (cc)
through-kept objects new (Function number) access value is = absurd (cc)

held-kept : (objects new : List Object) (place : Place) (held : Or CValue) → after held (λ value. store_through objects place.at place.access value) ≡ Ok new → forms new ≡ forms objects
held-kept objects new place (Ok value) is = through-kept objects new place.at place.access value is
held-kept objects new place (Err reason) is = absurd (cc)

pub stored-forms : (objects new : List Object) (place : Place) (value : CValue) → stored objects place value ≡ Ok new → SameForms objects new
unfolding stored
stored-forms objects new place value is = record { same = held-kept objects new place (converted place.access value) is }

pub same-objects : (objects : List Object) → SameForms objects objects
same-objects objects = record { same = refl }

pub stores-forms : (place : Place) (value : CValue) (old new : List Object) (result : Result (Unit {0}) CFault) → Stores (λ all. stored all place value) old new result → SameForms old new
stores-forms place value old new (Ok done) stores = stored-forms old new place value stores
stores-forms place value old new (Err fault) stores = record { same = ap forms stores.1 }

pub unchanged-forms : (old new : List Object) → new ≡ old → SameForms old new
unchanged-forms old new is = record { same = ap forms is }

pub ruleset form_laws = (stored-forms, same-objects, unchanged-forms)
