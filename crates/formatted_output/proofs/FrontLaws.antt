-- The set bytes from a place on, one by one.
use Rattle.std.proofs.Common.{◌≡◌, ℕ, suc, ◌+◌, ◌-◌, ◌≤◌, Bool, true, false, List, [], ◌∷◌, length, take, drop, Option, Some, None, refl, ap, sym, ◌∙◌, subst, arith, length-drop}
use Rattle.std.specs.Prelude.{Ok, nat_eq, nat_le, slice_get, if◌then◌else◌}
use Rattle.std.proofs.lemmas.List.{drop-drop}
use Rattle.std.proofs.lemmas.Bool.Decides.{nat_tests}
use Rattle.c_tree.specs.declared.outcome.CValue.{CValue}
use Rattle.c_tree.specs.declared.outcome.CValue.TheVariants.{Number, Pointer, Null, Function}
use Rattle.c_tree.specs.declared.outcome.CFault.{CFault}
use Rattle.c_tree.specs.declared.outcome.CFault.TheVariants.{Unset, Outside}
use Rattle.c_tree.specs.Faults.{Or, after, failing}
use Rattle.c_tree.specs.Objects.{Object, Bytes, Values, all_set, bytes_at, extent}
use Rattle.c_tree.specs.LibraryArguments.{text_in, text_at}
use Rattle.formatted_output.specs.Fronts.{set_bytes, fault_behind, front_of, front_at}

abbrev pub extent_of : Option Object → ℕ
extent_of None = 0
extent_of (Some object) = extent object

-- so many bytes from an offset on are set
pub record Along (object : Option Object) (offset size : ℕ) : Type 0 where
  pub text : length (front_of object offset).text ≡ size + length (front_of object (offset + size)).text
  pub fault : (front_of object offset).fault ≡ (front_of object (offset + size)).fault

pub along-none : (object : Option Object) (offset : ℕ) → Along object offset 0
along-none object offset =
    let same : offset + 0 ≡ offset = omega arith in
    record {
      text = ap (λ (n : ℕ). length (front_of object n).text) (sym same) ∙ (let e : length (front_of object (offset + 0)).text ≡ 0 + length (front_of object (offset + 0)).text = omega arith in e);
      fault = ap (λ (n : ℕ). (front_of object n).fault) (sym same);
    }

-- what stands at a place
within : (bytes : List (Option ℕ)) (place : ℕ) (first : Option ℕ) (later : List (Option ℕ)) → drop place bytes ≡ first ∷ later → (place + 1 ≤ length bytes) × (drop (place + 1) bytes ≡ later)
within bytes place first later is = (
  omega (arith, length-drop place bytes, ap length is),
  sym (drop-drop 1 place bytes) ∙ ap (drop 1) is,
)

past : (bytes : List (Option ℕ)) (place : ℕ) → drop place bytes ≡ [] → length bytes ≤ place
past bytes place is = omega (arith, length-drop place bytes, ap length is)

one-byte : (bytes : List (Option ℕ)) (place : ℕ) (first : Option ℕ) (later : List (Option ℕ)) → drop place bytes ≡ first ∷ later → bytes_at place 1 bytes ≡ all_set (first ∷ [])
one-byte bytes place first later is = by (nat_le (place + 1) (length bytes)) refl
  where
    by : (fits : Bool) → nat_le (place + 1) (length bytes) ≡ fits → (if fits then all_set (take 1 (drop place bytes)) else failing Outside) ≡ all_set (first ∷ [])
    by true e = ap (λ (xs : List (Option ℕ)). all_set (take 1 xs)) is
    by false e = let h : place + 1 ≤ length bytes = (within bytes place first later is).0 in absurd (grind (arith, nat_tests))

no-byte : (bytes : List (Option ℕ)) (place : ℕ) → drop place bytes ≡ [] → bytes_at place 1 bytes ≡ failing Outside
no-byte bytes place is = by (nat_le (place + 1) (length bytes)) refl
  where
    by : (fits : Bool) → nat_le (place + 1) (length bytes) ≡ fits → (if fits then all_set (take 1 (drop place bytes)) else failing Outside) ≡ failing Outside
    by true e = let h : length bytes ≤ place = past bytes place is in absurd (grind (arith, nat_tests))
    by false e = refl

-- a byte that is set, or why it cannot be read
pub record Next (object : Option Object) (place : ℕ) : Type 0 where
  pub text : length (front_of object place).text ≡ suc (length (front_of object (place + 1)).text)
  pub fault : (front_of object place).fault ≡ (front_of object (place + 1)).fault

next-in : (bytes : List (Option ℕ)) (place : ℕ) (text : List ℕ) (xs : List (Option ℕ)) → drop place bytes ≡ xs → Ok text ≡ bytes_at place 1 bytes → Next (Some (Bytes bytes)) place
next-in bytes place text [] is read = let clash : (let found : Or (List ℕ) = Ok text in found) ≡ failing Outside = read ∙ no-byte bytes place is in absurd (cc)
next-in bytes place text (None ∷ later) is read = let clash : (let found : Or (List ℕ) = Ok text in found) ≡ failing Unset = read ∙ one-byte bytes place None later is in absurd (cc)
next-in bytes place text (Some byte ∷ later) is read = record {
  text = ap (λ (xs : List (Option ℕ)). length (set_bytes xs)) is ∙ ap (λ (xs : List (Option ℕ)). suc (length (set_bytes xs))) (sym (within bytes place (Some byte) later is).1);
  fault = ap fault_behind is ∙ ap fault_behind (sym (within bytes place (Some byte) later is).1);
}

pub next-set : (object : Option Object) (place : ℕ) (text : List ℕ) → Ok text ≡ text_in object place 1 → Next object place
next-set None place text read = absurd (cc)
next-set (Some (Bytes bytes)) place text read = next-in bytes place text (drop place bytes) refl read
next-set (Some (Values held)) place text read = absurd (cc)

pub along-more : (object : Option Object) (offset size : ℕ) (text : List ℕ) → Ok text ≡ text_in object (offset + size) 1 → Along object offset size → Along object offset (size + 1)
along-more object offset size text read before =
    let next : Next object (offset + size) = next-set object (offset + size) text read in
    let same : offset + size + 1 ≡ offset + (size + 1) = omega arith in
    let step : length (front_of object (offset + size)).text ≡ suc (length (front_of object (offset + (size + 1))).text) =
    next.text ∙ ap (λ (n : ℕ). suc (length (front_of object n).text)) same in
    record {
      text = before.text ∙ (let e : size + length (front_of object (offset + size)).text ≡ size + 1 + length (front_of object (offset + (size + 1))).text = omega arith in e);
      fault = before.fault ∙ next.fault ∙ ap (λ (n : ℕ). (front_of object n).fault) same;
    }

-- the text of the set bytes can be read
all-read : (xs : List (Option ℕ)) → all_set (take (length (set_bytes xs)) xs) ≡ Ok (set_bytes xs)
all-read [] = refl
all-read (None ∷ later) = refl
all-read (Some byte ∷ later) = ap (λ (found : Or (List ℕ)). after found (λ bytes. Ok (byte ∷ bytes))) (all-read later)

at-most : (xs : List (Option ℕ)) → length (set_bytes xs) ≤ length xs
at-most [] = omega arith
at-most (None ∷ later) = omega arith
at-most (Some byte ∷ later) = let h : length (set_bytes later) ≤ length later = at-most later in omega arith

no-text : (text : List ℕ) → length text ≡ 0 → text ≡ []
no-text [] h = refl
no-text (c ∷ cs) h = absurd (omega arith)

front-read : (object : Option Object) (offset : ℕ) (empty : Bool) → nat_eq (length (front_of object offset).text) 0 ≡ empty →
    (if empty then Ok [] else text_in object offset (length (front_of object offset).text)) ≡ Ok (front_of object offset).text
front-read object offset true e =
    let none : length (front_of object offset).text ≡ 0 = grind (arith, nat_tests) in
    ap Ok (sym (no-text (front_of object offset).text none))
front-read None offset false e = absurd (cc)
front-read (Some (Bytes bytes)) offset false e = by (nat_le (offset + length (set_bytes (drop offset bytes))) (length bytes)) refl
  where
    by : (fits : Bool) → nat_le (offset + length (set_bytes (drop offset bytes))) (length bytes) ≡ fits →
        (if fits then all_set (take (length (set_bytes (drop offset bytes))) (drop offset bytes)) else failing Outside) ≡ Ok (set_bytes (drop offset bytes))
    by true is = all-read (drop offset bytes)
    by false is =
        let some : length (set_bytes (drop offset bytes)) ≡ 0 → nat_eq (length (set_bytes (drop offset bytes))) 0 ≡ true = λ z. ap (λ (n : ℕ). nat_eq n 0) z in
        let most : length (set_bytes (drop offset bytes)) ≤ length bytes - offset = subst (λ (n : ℕ). length (set_bytes (drop offset bytes)) ≤ n) (length-drop offset bytes) (at-most (drop offset bytes)) in
        absurd (grind (arith, nat_tests))
front-read (Some (Values held)) offset false e = absurd (cc)

pub front-there : (objects : List Object) (pointer : CValue) (size : ℕ) → size ≡ length (front_at objects pointer).text → text_at objects pointer size ≡ Ok (front_at objects pointer).text
front-there objects (Pointer object offset) size is =
    ap (text_at objects (Pointer object offset)) is ∙ front-read (slice_get objects object) offset (nat_eq (length (front_of (slice_get objects object) offset).text) 0) refl
front-there objects Null size is = ap (text_at objects Null) is
front-there objects (Number n) size is = ap (text_at objects (Number n)) is
front-there objects (Function n) size is = ap (text_at objects (Function n)) is

pub front-is : (objects : List Object) (pointer : CValue) (size : ℕ) (text : List ℕ) → size ≡ length (front_at objects pointer).text → Ok text ≡ text_at objects pointer size →
    text ≡ (front_at objects pointer).text
front-is objects pointer size text is read =
    let same : (let found : Or (List ℕ) = Ok text in found) ≡ Ok (front_at objects pointer).text = read ∙ front-there objects pointer size is in cc

pub front-clear : (objects : List Object) (pointer : CValue) (size : ℕ) (fault : CFault) → size ≡ length (front_at objects pointer).text → failing fault ≡ text_at objects pointer size → ⊥
front-clear objects pointer size fault is read =
    let clash : (let found : Or (List ℕ) = failing fault in found) ≡ Ok (front_at objects pointer).text = read ∙ front-there objects pointer size is in cc
