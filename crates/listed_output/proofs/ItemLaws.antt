-- The items of a call, one after the other.
use Rattle.std.proofs.Common.{◌≡◌, ℕ, suc, ◌+◌, ◌≤◌, ◌<◌, ◌%◌, ◌^◌, ℤ, Bool, true, false, List, [], ◌∷◌, ◌++◌, length, take, drop, Option, Some, None, refl, ap, sym, ◌∙◌, subst, arith, append_assoc, append-nil, ◌⊎◌, inl, inr}
use Rattle.std.specs.Prelude.{Ok, Err, slice_get, nat_le, nat_eq, option_map, if◌then◌else◌}
use Rattle.std.proofs.lemmas.Bool.{cases_lt}
use Rattle.std.proofs.lemmas.Bool.Decides.{nat_tests}
use Rattle.c_tree.specs.declared.outcome.CValue.{CValue}
use Rattle.c_tree.specs.declared.outcome.CValue.TheVariants.{Number, Pointer, Null, Function}
use Rattle.c_tree.specs.declared.outcome.CFault.{CFault}
use Rattle.c_tree.specs.declared.outcome.CFault.TheVariants.{Kind, Outside}
use Rattle.c_tree.specs.Faults.{Or, after, failing}
use Rattle.c_tree.specs.Access.{Access, ToNumber, ToChar, ToByte, ToList, ToField, ToPointer, ToFunction, ToNothing}
use Rattle.c_tree.specs.Objects.{Object, Bytes, Values, Held, Typed, extent, fetched, read_object, read_held, number_from, bytes_at, all_set, plain, as_number, holds}
use Rattle.c_tree.specs.LibraryArguments.{text_in, text_at, shifted}
use Rattle.c_tree.specs.TransferOutput.{ItemKind, IntegerItem, LogicalItem, TextItem, item_at, items_at}
use Rattle.c_tree.specs.edit_meaning.Listed.{ListedValue}
use Rattle.unit_answers.proofs.OrLemmas.{known, faulty, behind, same-rest}
use Rattle.listed_output.specs.Kinds.{has_size}
use Rattle.listed_output.specs.Items.{extent_of, StandsThere}

-- some items are read, those from a pointer on are left
pub record Reading (kind : ItemKind) (objects : List Object) (size : ℕ) (first : CValue) (count : ℕ) (pointer : CValue) (left : ℕ) (read : List ListedValue) : Type 0 where
  pub whole : items_at kind objects size count first ≡ after (items_at kind objects size left pointer) (λ later. Ok (read ++ later))

unchanged : (found : Or (List ListedValue)) → found ≡ after found (λ later. Ok ([] ++ later))
unchanged (Ok values) = refl
unchanged (Err reason) = refl

pub reading-starts : (kind : ItemKind) (objects : List Object) (size : ℕ) (first : CValue) (count left : ℕ) → left ≡ count → Reading kind objects size first count first left []
reading-starts kind objects size first count left all = record {
  whole = unchanged (items_at kind objects size count first) ∙ ap (λ (n : ℕ). after (items_at kind objects size n first) (λ later. Ok ([] ++ later))) (sym all);
}

one-more : (kind : ItemKind) (objects : List Object) (size : ℕ) (first : CValue) (count : ℕ) (pointer : CValue) (left less : ℕ) (read : List ListedValue) → left ≡ suc less →
    Reading kind objects size first count pointer left read →
    items_at kind objects size count first
    ≡ after (item_at kind objects pointer size) (λ value. after (items_at kind objects size less (shifted size pointer)) (λ later. Ok (read ++ value ∷ later)))
one-more kind objects size first count pointer left less read more before =
    before.whole ∙ ap (λ (n : ℕ). after (items_at kind objects size n pointer) (λ later. Ok (read ++ later))) more
    ∙ behind (item_at kind objects pointer size) _ _
    ∙ same-rest (item_at kind objects pointer size) _ _ (λ value. behind (items_at kind objects size less (shifted size pointer)) _ _)

pub reading-goes_on :
    (kind : ItemKind) (objects : List Object) (size : ℕ) (first : CValue) (count : ℕ) (pointer next : CValue) (left less : ℕ) (read : List ListedValue) (value : ListedValue) → left ≡ suc less →
    next ≡ shifted size pointer → Ok value ≡ item_at kind objects pointer size → Reading kind objects size first count pointer left read →
    Reading kind objects size first count next less (read ++ value ∷ [])
reading-goes_on kind objects size first count pointer next left less read value more moved is before = record {
  whole = one-more kind objects size first count pointer left less read more before
      ∙ known (item_at kind objects pointer size) value _ is
      ∙ same-rest (items_at kind objects size less (shifted size pointer)) _ _ (λ later. ap Ok (sym (append_assoc read (value ∷ []) later)))
      ∙ ap (λ (at : CValue). after (items_at kind objects size less at) (λ later. Ok ((read ++ value ∷ []) ++ later))) (sym moved);
}

pub reading-faulty :
    (kind : ItemKind) (objects : List Object) (size : ℕ) (first : CValue) (count : ℕ) (pointer : CValue) (left less : ℕ) (read : List ListedValue) (fault : CFault) → left ≡ suc less →
    failing fault ≡ item_at kind objects pointer size → Reading kind objects size first count pointer left read → items_at kind objects size count first ≡ failing fault
reading-faulty kind objects size first count pointer left less read fault more is before =
    one-more kind objects size first count pointer left less read more before ∙ faulty (item_at kind objects pointer size) fault _ is

pub reading-done : (kind : ItemKind) (objects : List Object) (size : ℕ) (first : CValue) (count : ℕ) (pointer : CValue) (left : ℕ) (read : List ListedValue) → left ≡ 0 →
    Reading kind objects size first count pointer left read → items_at kind objects size count first ≡ Ok read
reading-done kind objects size first count pointer left read none before =
    before.whole ∙ ap (λ (n : ℕ). after (items_at kind objects size n pointer) (λ later. Ok (read ++ later))) none ∙ ap Ok (append-nil read)

-- what is left of items that are all there
rest-of : (found : Or (List ListedValue)) (read all : List ListedValue) → after found (λ later. Ok (read ++ later)) ≡ Ok all → (later : List ListedValue) × (all ≡ read ++ later)
rest-of (Ok later) read all is = let same : read ++ later ≡ all = cc in (later, sym same)
rest-of (Err reason) read all is = absurd (cc)

pub reading-rest : (kind : ItemKind) (objects : List Object) (size : ℕ) (first : CValue) (count : ℕ) (pointer : CValue) (left : ℕ) (read all : List ListedValue) →
    Reading kind objects size first count pointer left read → items_at kind objects size count first ≡ Ok all → (later : List ListedValue) × (all ≡ read ++ later)
reading-rest kind objects size first count pointer left read all before is =
    rest-of (items_at kind objects size left pointer) read all (sym before.whole ∙ is)

pub reading-all : (kind : ItemKind) (objects : List Object) (size : ℕ) (first : CValue) (count : ℕ) (pointer : CValue) (left : ℕ) (read all : List ListedValue) → left ≡ 0 →
    Reading kind objects size first count pointer left read → items_at kind objects size count first ≡ Ok all → read ≡ all
reading-all kind objects size first count pointer left read all none before is =
    let same : (let found : Or (List ListedValue) = Ok read in found) ≡ Ok all = sym (reading-done kind objects size first count pointer left read none before) ∙ is in cc

-- an item of those that are all there has no fault
pub reading-there : (kind : ItemKind) (objects : List Object) (size : ℕ) (first : CValue) (count : ℕ) (pointer : CValue) (left less : ℕ) (read all : List ListedValue) (fault : CFault) → left ≡ suc less →
    Reading kind objects size first count pointer left read → items_at kind objects size count first ≡ Ok all → failing fault ≡ item_at kind objects pointer size → ⊥
reading-there kind objects size first count pointer left less read all fault more before is wrong =
    let clash : (let found : Or (List ListedValue) = Ok all in found) ≡ failing fault = sym is ∙ reading-faulty kind objects size first count pointer left less read fault more wrong before in absurd (cc)

-- the bytes of what is read stand within their object
enough : (bytes : List (Option ℕ)) (offset count : ℕ) (fits : Bool) (text : List ℕ) → nat_le (offset + count) (length bytes) ≡ fits →
    (if fits then all_set (take count (drop offset bytes)) else failing Outside) ≡ Ok text → offset + count ≤ length bytes
enough bytes offset count true text is read = grind (arith, nat_tests)
enough bytes offset count false text is read = absurd (cc)

four-read : (bytes : List (Option ℕ)) (offset : ℕ) (four : Or (List ℕ)) (typed : Typed) → bytes_at offset 4 bytes ≡ four →
    after (after four (λ four. Ok (number_from four))) (λ number. Ok (plain (Number number))) ≡ Ok typed → offset + 4 ≤ length bytes
four-read bytes offset (Ok text) typed is read = enough bytes offset 4 (nat_le (offset + 4) (length bytes)) text refl is
four-read bytes offset (Err reason) typed is read = absurd (cc)

number-read : (bytes : List (Option ℕ)) (offset : ℕ) (even : Bool) (typed : Typed) →
    after (if even then after (bytes_at offset 4 bytes) (λ four. Ok (number_from four)) else failing Outside) (λ number. Ok (plain (Number number))) ≡ Ok typed →
    offset + 4 ≤ length bytes
number-read bytes offset true typed read = four-read bytes offset (bytes_at offset 4 bytes) typed refl read
number-read bytes offset false typed read = absurd (cc)

-- no object of values holds numbers of bytes
pub no-number : (type : Access) → holds type ToNumber ≡ false
no-number ToNumber = refl
no-number ToChar = refl
no-number ToByte = refl
no-number (ToList list_type) = refl
no-number (ToField kind) = refl
no-number (ToPointer ToNumber) = refl
no-number (ToPointer ToChar) = refl
no-number (ToPointer ToByte) = refl
no-number (ToPointer (ToList list_type)) = refl
no-number (ToPointer (ToField kind)) = refl
no-number (ToPointer (ToPointer through)) = refl
no-number (ToPointer ToFunction) = refl
no-number (ToPointer ToNothing) = refl
no-number ToFunction = refl
no-number ToNothing = refl

held-nowhere : (held : Held) (offset : ℕ) (typed : Typed) (right : Bool) → right ≡ false →
    (if right then read_held ToNumber (slice_get held.values offset) else failing Kind) ≡ Ok typed → ⊥
held-nowhere held offset typed true is read = absurd (cc)
held-nowhere held offset typed false is read = absurd (cc)

number-within : (offset : ℕ) (found : Option Object) (typed : Typed) → read_object ToNumber offset found ≡ Ok typed → offset + 4 ≤ extent_of found
number-within offset None typed read = absurd (cc)
number-within offset (Some (Bytes bytes)) typed read = number-read bytes offset (nat_eq (offset % 4) 0) typed read
number-within offset (Some (Values held)) typed read = absurd (held-nowhere held offset typed (holds held.type ToNumber) (no-number held.type) read)

number-there : (objects : List Object) (pointer : CValue) (typed : Typed) → fetched objects (record { at = pointer; access = ToNumber }) ≡ Ok typed → StandsThere 4 objects pointer
unfolding fetched
number-there objects (Pointer object offset) typed read = λ some. number-within offset (slice_get objects object) typed read
number-there objects (Number number) typed read = tt
number-there objects Null typed read = tt
number-there objects (Function number) typed read = tt

number-item : (objects : List Object) (pointer : CValue) (found : Or Typed) (rest : ℤ → Or ListedValue) (value : ListedValue) → fetched objects (record { at = pointer; access = ToNumber }) ≡ found →
    after (after found (λ typed. as_number typed.value)) rest ≡ Ok value → StandsThere 4 objects pointer
number-item objects pointer (Ok typed) rest value is read = number-there objects pointer typed is
number-item objects pointer (Err reason) rest value is read = absurd (cc)

text-within : (offset size : ℕ) (found : Option Object) (text : List ℕ) → text_in found offset size ≡ Ok text → offset + size ≤ extent_of found
text-within offset size None text read = absurd (cc)
text-within offset size (Some (Bytes bytes)) text read = enough bytes offset size (nat_le (offset + size) (length bytes)) text refl read
text-within offset size (Some (Values held)) text read = absurd (cc)

text-some : (objects : List Object) (object offset size : ℕ) (none : Bool) (text : List ℕ) → nat_eq size 0 ≡ none →
    (if none then Ok [] else text_in (slice_get objects object) offset size) ≡ Ok text → 0 < size → offset + size ≤ extent_of (slice_get objects object)
text-some objects object offset size true text is read some = let zero_size : size ≡ 0 = grind (arith, nat_tests) in absurd (omega arith)
text-some objects object offset size false text is read some = text-within offset size (slice_get objects object) text read

text-there : (objects : List Object) (pointer : CValue) (size : ℕ) (text : List ℕ) → text_at objects pointer size ≡ Ok text → StandsThere size objects pointer
text-there objects (Pointer object offset) size text read = text-some objects object offset size (nat_eq size 0) text refl read
text-there objects (Number number) size text read = tt
text-there objects Null size text read = tt
text-there objects (Function number) size text read = tt

text-item : (objects : List Object) (pointer : CValue) (size : ℕ) (found : Or (List ℕ)) (rest : List ℕ → Or ListedValue) (value : ListedValue) → text_at objects pointer size ≡ found →
    after found rest ≡ Ok value → StandsThere size objects pointer
text-item objects pointer size (Ok text) rest value is read = text-there objects pointer size text is
text-item objects pointer size (Err reason) rest value is read = absurd (cc)

pub has-four : (size : ℕ) → nat_eq size 4 ≡ true → 4 ≡ size
has-four size is = grind (arith, nat_tests)

-- an item that is read stands within its object
pub item-there : (kind : ItemKind) (objects : List Object) (pointer : CValue) (size : ℕ) (value : ListedValue) → has_size kind size ≡ true → Ok value ≡ item_at kind objects pointer size →
    StandsThere size objects pointer
item-there IntegerItem objects pointer size value has is =
    subst (λ (n : ℕ). StandsThere n objects pointer) (has-four size has) (number-item objects pointer (fetched objects (record { at = pointer; access = ToNumber })) _ value refl (sym is))
item-there LogicalItem objects pointer size value has is =
    subst (λ (n : ℕ). StandsThere n objects pointer) (has-four size has) (number-item objects pointer (fetched objects (record { at = pointer; access = ToNumber })) _ value refl (sym is))
item-there TextItem objects pointer size value has is = text-item objects pointer size (text_at objects pointer size) _ value refl (sym is)

-- an empty text stands where no byte is left
pub nothing-left : (objects : List Object) (object offset size : ℕ) → StandsThere size objects (Pointer object offset) → extent_of (slice_get objects object) ≤ offset →
    Pointer object offset ≡ shifted size (Pointer object offset)
nothing-left objects object offset size there past = by (cases_lt 0 size)
  where
    by : (0 < size) ⊎ (size ≤ 0) → Pointer object offset ≡ shifted size (Pointer object offset)
    by (inl some) = let within : offset + size ≤ extent_of (slice_get objects object) = there some in absurd (omega arith)
    by (inr none) = let same : offset + size ≡ offset = omega arith in ap (Pointer object) (sym same)

pub next-small : (objects : List Object) (object offset size count : ℕ) → StandsThere size objects (Pointer object offset) → Some count ≡ option_map extent (slice_get objects object) →
    count < 2 ^ 63 → offset < count → offset + size < 2 ^ 64
next-small objects object offset size count there is small before = by (slice_get objects object) refl (cases_lt 0 size)
  where
    by : (found : Option Object) → slice_get objects object ≡ found → (0 < size) ⊎ (size ≤ 0) → offset + size < 2 ^ 64
    by found at (inr none) = omega arith
    by (Some held) at (inl some) =
        let within : offset + size ≤ extent_of (Some held) = subst (λ (one : Option Object). offset + size ≤ extent_of one) at (there some) in
        let same : (let one : Option ℕ = Some count in one) ≡ Some (extent held) = is ∙ ap (option_map extent) at in
        let count_is : count ≡ extent held = cc in omega arith
    by None at (inl some) =
        let same : (let one : Option ℕ = Some count in one) ≡ None = is ∙ ap (option_map extent) at in absurd (cc)
