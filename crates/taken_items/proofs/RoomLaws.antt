-- Places near a pointer, and numbers that are stored there (C89, 3.3.16.1).
use Rattle.std.proofs.Common.{◌≡◌, ℕ, ◌+◌, ◌≤◌, ◌<◌, ◌^◌, Bool, true, false, List, length, Option, Some, None, refl, sym, subst, arith}
use Rattle.std.specs.Prelude.{slice_get, slice_set, nat_le, nat_eq, if◌then◌else◌, ◌%◌, ℤ, Ok, Err}
use Rattle.std.proofs.lemmas.Bool.Decides.{nat_tests}
use Rattle.c_tree.specs.declared.outcome.CValue.{CValue}
use Rattle.c_tree.specs.declared.outcome.CValue.TheVariants.{Number, Pointer, Null, Function}
use Rattle.c_tree.specs.declared.outcome.CFault.TheVariants.{Outside, Kind}
use Rattle.c_tree.specs.Faults.{Or, after, failing}
use Rattle.c_tree.specs.Access.{ToNumber}
use Rattle.c_tree.specs.Objects.{Object, Bytes, Values, Held, overlaid, with_bytes, with_value, bytes_of_number, put_object, holds, stored}
use Rattle.listed_output.specs.Items.{extent_of, StandsThere}
use Rattle.listed_output.proofs.ItemLaws.{no-number}
use Rattle.taken_items.specs.Storing.{IsNear}

-- ## Near places

pub near-less : (pointer : CValue) (less more : ℕ) → less ≤ more → IsNear more pointer → IsNear less pointer
near-less (Pointer object offset) less more below near = λ some. (let far : offset + more < 2 ^ 64 = near (omega arith) in omega (arith, far, below))
near-less (Number number) less more below near = tt
near-less Null less more below near = tt
near-less (Function number) less more below near = tt

-- ## A number that is stored stands within its object

four-bytes : (number : ℤ) → length (bytes_of_number number) ≡ 4
four-bytes number = refl

four-within : (bytes : List (Option ℕ)) (offset : ℕ) (number : ℤ) (fits : Bool) (changed : Object) → nat_le (offset + length (bytes_of_number number)) (length bytes) ≡ fits →
    (if fits then Ok (Bytes (overlaid offset (bytes_of_number number) bytes)) else failing Outside) ≡ Ok changed → offset + 4 ≤ length bytes
four-within bytes offset number true changed is made =
    let within : offset + length (bytes_of_number number) ≤ length bytes = grind (arith, nat_tests) in omega (arith, within, four-bytes number)
four-within bytes offset number false changed is made = absurd (cc)

aligned-within : (bytes : List (Option ℕ)) (offset : ℕ) (number : ℤ) (even : Bool) (changed : Object) →
    (if even then with_bytes offset (bytes_of_number number) bytes else failing Outside) ≡ Ok changed → offset + 4 ≤ length bytes
aligned-within bytes offset number true changed made = four-within bytes offset number (nat_le (offset + length (bytes_of_number number)) (length bytes)) changed refl made
aligned-within bytes offset number false changed made = absurd (cc)

held-nowhere : (held : Held) (offset : ℕ) (value : CValue) (changed : Object) (right : Bool) → right ≡ false → (if right then with_value offset value held else failing Kind) ≡ Ok changed → ⊥
held-nowhere held offset value changed true is made = absurd (cc)
held-nowhere held offset value changed false is made = absurd (cc)

object-within : (offset : ℕ) (number : ℤ) (found : Option Object) (changed : Object) → put_object ToNumber offset (Number number) found ≡ Ok changed → offset + 4 ≤ extent_of found
object-within offset number None changed made = absurd (cc)
object-within offset number (Some (Bytes bytes)) changed made = aligned-within bytes offset number (nat_eq (offset % 4) 0) changed made
object-within offset number (Some (Values held)) changed made = absurd (held-nowhere held offset (Number number) changed (holds held.type ToNumber) (no-number held.type) made)

through-within : (objects new : List Object) (object offset : ℕ) (number : ℤ) (made : Or Object) → put_object ToNumber offset (Number number) (slice_get objects object) ≡ made →
    after made (λ changed. Ok (slice_set objects object changed)) ≡ Ok new → offset + 4 ≤ extent_of (slice_get objects object)
through-within objects new object offset number (Ok changed) is stores = object-within offset number (slice_get objects object) changed is
through-within objects new object offset number (Err reason) is stores = absurd (cc)

pub number-there : (objects new : List Object) (pointer : CValue) (number : ℤ) (size : ℕ) → size ≡ 4 → stored objects (record { at = pointer; access = ToNumber }) (Number number) ≡ Ok new →
    StandsThere size objects pointer
unfolding stored
number-there objects new (Pointer object offset) number size four is =
    subst (λ (n : ℕ). StandsThere n objects (Pointer object offset)) (sym four)
    (λ some. through-within objects new object offset number (put_object ToNumber offset (Number number) (slice_get objects object)) refl is)
number-there objects new (Number other) number size four is = tt
number-there objects new Null number size four is = tt
number-there objects new (Function other) number size four is = tt
