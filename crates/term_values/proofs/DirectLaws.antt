-- Numbers that are found with no look at the other kinds of values (C89, 3.3).
use Rattle.std.specs.Prelude.{◌≡◌, ℕ, ◌+◌, ◌%◌, nat_eq, nat_le, ◌≤◌, ℤ, pos, negsuc, ◌+ℤ◌, ◌*ℤ◌, unsigned_abs, int_le, Bool, true, false, ◌&&◌, List, length, take, drop, Option, Some, None, option_map, Ok, slice_get, if◌then◌else◌}
use Rattle.std.specs.Int.{w64, FitsUnsigned}
use Rattle.std.proofs.Common.{refl, ap, sym, subst, ◌∙◌, arith}
use Rattle.std.proofs.lemmas.Bool.Decides.{nat_tests}
use Rattle.std.proofs.lemmas.Int.{ints}
use Rattle.c_tree.specs.declared.outcome.CValue.{CValue}
use Rattle.c_tree.specs.declared.outcome.CValue.TheVariants.{Number, Pointer}
use Rattle.c_tree.specs.declared.outcome.CFault.TheVariants.{Outside, Kind}
use Rattle.c_tree.specs.declared.expression.BinaryOp.{BinaryOp}
use Rattle.c_tree.specs.Faults.{Or, after, failing}
use Rattle.c_tree.specs.Access.{Access, ToNumber, ToChar, ToByte, ToList, ToField, ToPointer, ToFunction, ToNothing}
use Rattle.c_tree.specs.Objects.{Object, Bytes, Values, extent, Typed, plain, all_set, number_from, read_held, read_object, holds, fetched}
use Rattle.c_tree.specs.Values.{pointer_at, element, place_of, between, seen}
use Rattle.linked_terms.specs.declared.terms.LinkedTerm.{LinkedTerm}
use Rattle.linked_terms.specs.declared.terms.LinkedTerm.TheVariants as tree
use Rattle.linked_terms.specs.LinkedTerms.{term_of}
use Rattle.term_values.specs.Numbers.{or_overflow}
use Rattle.term_values.specs.Finds.{Finds}
use Rattle.term_values.proofs.TermForms.{value-Between}
use Rattle.term_values.proofs.PointerLaws.{pointer-in}

-- what was found is the result
pub found-is : (found : Option ℤ) (value : Or Typed) → or_overflow found ≡ value → Finds found value
found-is None value h = tt
found-is (Some n) value h = h

pub ruleset found_laws = (found-is)

-- a number at an offset of an object
pub fetched-number : (objects : List Object) (o n : ℕ) → fetched objects (record { at = Pointer o n; access = ToNumber }) ≡ read_object ToNumber n (slice_get objects o)
unfolding fetched
fetched-number objects o n = refl

pub ruleset fetch_laws = (fetched-number)

-- no object of values holds numbers for an access to numbers
no_numbers : (type : Access) → holds type ToNumber ≡ false
no_numbers ToNumber = refl
no_numbers ToChar = refl
no_numbers ToByte = refl
no_numbers (ToList l) = refl
no_numbers (ToField k) = refl
no_numbers (ToPointer ToNumber) = refl
no_numbers (ToPointer ToChar) = refl
no_numbers (ToPointer ToByte) = refl
no_numbers (ToPointer (ToList l)) = refl
no_numbers (ToPointer (ToField k)) = refl
no_numbers (ToPointer (ToPointer t)) = refl
no_numbers (ToPointer ToFunction) = refl
no_numbers (ToPointer ToNothing) = refl
no_numbers ToFunction = refl
no_numbers ToNothing = refl

test_in : (k most : ℕ) → k ≤ most → int_le (pos 0) (pos k) && int_le (pos k) (pos most) ≡ true
test_in k most h = grind (arith, nat_tests)

bytes-read : (aligned within : Bool) (k : ℕ) (bytes : List (Option ℕ)) (four : Or (List ℕ)) (t : Typed) → nat_le (k + 4) (length bytes) ≡ within →
    Ok t ≡ after (if aligned then after (if within then four else failing Outside) (λ four. Ok (number_from four)) else failing Outside) (λ number. Ok (plain (Number number))) →
    k ≤ length bytes
bytes-read true true k bytes four t is h = grind (arith, nat_tests)
bytes-read true false k bytes four t is h = absurd (cc)
bytes-read false within k bytes four t is h = absurd (cc)

values-read : (test : Bool) (read : Or Typed) (t : Typed) → test ≡ false → Ok t ≡ (if test then read else failing Kind) → ⊥
values-read true read t is h = absurd (cc)
values-read false read t is h = absurd (cc)

-- where a number is read, a pointer may stand
at-number : (o k : ℕ) (t : Typed) (found : Option Object) → Ok t ≡ read_object ToNumber k found → pointer_at o (pos k) found ≡ Ok (Pointer o k)
at-number o k t None is = absurd (cc)
at-number o k t (Some (Bytes bytes)) is =
    let low : k ≤ length bytes = bytes-read (nat_eq (k % 4) 0) (nat_le (k + 4) (length bytes)) k bytes (all_set (take 4 (drop k bytes))) t refl is in
    ap (λ test. if test then Ok (Pointer o k) else failing Outside) (test_in k (length bytes) low)
at-number o k t (Some (Values held)) is =
    absurd (values-read (holds held.type ToNumber) (read_held ToNumber (slice_get held.values k)) t (no_numbers held.type) is)

moving : (objects : List Object) (to : Or CValue) (o k : ℕ) → to ≡ Ok (Pointer o k) →
    after (after (after to (λ value. Ok (record { value = value; through = ToNumber }))) place_of) (fetched objects) ≡ read_object ToNumber k (slice_get objects o)
moving objects to o k is =
    ap (λ to. after (after (after to (λ value. Ok (record { value = value; through = ToNumber }))) place_of) (fetched objects)) is ∙ fetched-number objects o k

one-element : (objects : List Object) (o n k : ℕ) (z c m : ℤ) → FitsUnsigned w64 z → k ≡ unsigned_abs z → z ≡ pos n +ℤ c *ℤ pos 4 →
    Ok (plain (Number m)) ≡ read_object ToNumber k (slice_get objects o) →
    Ok (plain (Number m)) ≡ after (element objects (record { value = Pointer o n; through = ToNumber }) (plain (Number c))) (fetched objects)
one-element objects o n k (pos j) c m f e is h =
    let there : pointer_at o (pos k) (slice_get objects o) ≡ Ok (Pointer o k) = at-number o k (plain (Number m)) (slice_get objects o) h in
    h ∙ sym (moving objects (pointer_at o (pos n +ℤ c *ℤ pos 4) (slice_get objects o)) o k
    (ap (λ z. pointer_at o z (slice_get objects o)) (sym is ∙ ap pos (sym e)) ∙ there))
one-element objects o n k (negsuc j) c m f e is h = absurd (omega (arith, ints))

-- the number so many numbers behind a place
pub element-found : (objects : List Object) (o n k : ℕ) (z c : ℤ) (found : Option ℤ) → FitsUnsigned w64 z → k ≡ unsigned_abs z → z ≡ pos n +ℤ c *ℤ pos 4 →
    Finds found (read_object ToNumber k (slice_get objects o)) →
    Finds found (after (element objects (record { value = Pointer o n; through = ToNumber }) (plain (Number c))) (fetched objects))
element-found objects o n k z c None f e is h = tt
element-found objects o n k z c (Some m) f e is h = one-element objects o n k z c m f e is h

-- an operator and its operands
pub between-found : (objects : List Object) (operator : BinaryOp) (l r term : LinkedTerm) (found : Option ℤ) → term ≡ tree.Between operator l r →
    Finds found (between objects operator (seen objects (term_of l)).value (seen objects (term_of r)).value) → Finds found (seen objects (term_of term)).value
between-found objects operator l r term found is h =
    subst (λ term. Finds found (seen objects (term_of term)).value) (sym is) (subst (Finds found) (sym (value-Between objects operator l r)) h)

-- the place so many numbers behind one
pub place-found : (objects : List Object) (o n k most : ℕ) (z c : ℤ) → FitsUnsigned w64 z → k ≡ unsigned_abs z → k ≤ most →
    Some most ≡ option_map extent (slice_get objects o) → z ≡ pos n +ℤ c *ℤ pos 4 →
    Ok (record { at = Pointer o k; access = ToNumber }) ≡ element objects (record { value = Pointer o n; through = ToNumber }) (plain (Number c))
place-found objects o n k most z c f e low known is =
    ap (λ to. after (after to (λ value. Ok (record { value = value; through = ToNumber }))) place_of)
    (pointer-in o k most z (slice_get objects o) f e low known ∙ ap (λ z. pointer_at o z (slice_get objects o)) is)

pub ruleset place_laws = (place-found)

pub ruleset element_laws = (element-found)

pub ruleset form_laws = (fetched-number)
