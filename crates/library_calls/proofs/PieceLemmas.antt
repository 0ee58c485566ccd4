-- The pieces of a concatenation, one after the other into a buffer.
use Rattle.std.proofs.Common.{◌≡◌, ℕ, suc, ◌+◌, ◌≤◌, ◌<◌, ◌%◌, ◌^◌, List, [], ◌++◌, length, take, drop, Option, Some, None, Bool, true, false, refl, ap, sym, ◌∙◌, arith, append-nil, append_assoc}
use Rattle.std.specs.Prelude.{Ok, Err, slice_get, nat_le, nat_eq, if◌then◌else◌}
use Rattle.std.proofs.lemmas.Bool.Decides.{nat_tests}
use Rattle.std.proofs.lemmas.List.{take_all}
use Rattle.std.proofs.lemmas.Option.{slice_get_within}
use Rattle.c_tree.specs.declared.outcome.CValue.{CValue}
use Rattle.c_tree.specs.declared.outcome.CValue.TheVariants.{Number, Pointer, Null, Function}
use Rattle.c_tree.specs.declared.outcome.CFault.{CFault}
use Rattle.c_tree.specs.declared.outcome.CFault.TheVariants.{Kind, Outside}
use Rattle.c_tree.specs.Faults.{Or, after, failing}
use Rattle.c_tree.specs.Access.{Access, ToNumber, ToChar, ToByte, ToList, ToField, ToPointer, ToFunction, ToNothing}
use Rattle.c_tree.specs.Objects.{Object, Bytes, Values, Held, Typed, fetched, read_object, read_held, number_from, bytes_at, all_set, plain, as_number, holds}
use Rattle.c_tree.specs.LibraryArguments.{number_through, count_from, text_at, shifted}
use Rattle.c_tree.specs.LibraryTexts.{pieces}
use Rattle.library_texts.specs.Gathered.{Gathers}
use Rattle.library_calls.specs.Pieces.{piece_at, Holds, Collects, CanShift}
use Rattle.library_calls.specs.Room.{HasRoom}
use Rattle.library_calls.proofs.OrLemmas.{known, faulty, behind, same-rest}

pieces-more : (objects : List Object) (address size : CValue) (count : ℕ) →
    pieces objects address size (suc count)
    ≡ after (piece_at objects address size) (λ piece. after (pieces objects (shifted 1 address) (shifted 4 size) count) (λ later. Ok (piece ++ later)))
pieces-more objects address size count =
    sym (behind (fetched objects (record { at = address; access = ToPointer ToChar })) _ _
    ∙ same-rest (fetched objects (record { at = address; access = ToPointer ToChar })) _ _ (λ held. behind (number_through objects size) _ _
    ∙ same-rest (number_through objects size) _ _ (λ number. behind (count_from number) _ _)))

-- the pieces before some places are in the buffer, those from there on are left
pub record Collecting (objects : List Object) (addresses sizes : CValue) (count : ℕ) (address size : CValue) (left : ℕ) (buffer : List ℕ) (used : ℕ) : Type 0 where
  pub text : List ℕ
  pub held : Holds text buffer used
  pub whole : pieces objects addresses sizes count ≡ after (pieces objects address size left) (λ later. Ok (text ++ later))

unchanged : (found : Or (List ℕ)) → found ≡ after found (λ later. Ok ([] ++ later))
unchanged (Ok text) = refl
unchanged (Err reason) = refl

holds-nothing : (buffer : List ℕ) → Holds [] buffer 0
holds-nothing buffer = record { gathered = sym (take_all (length buffer) [] (omega arith)); within = omega arith }

pub collecting-none : (objects : List Object) (addresses sizes : CValue) (count left : ℕ) (buffer : List ℕ) → left ≡ count →
    Collecting objects addresses sizes count addresses sizes left buffer 0
collecting-none objects addresses sizes count left buffer all =
    record {
      text = [];
      held = holds-nothing buffer;
      whole = unchanged (pieces objects addresses sizes count) ∙ ap (λ left. after (pieces objects addresses sizes left) (λ later. Ok ([] ++ later))) (sym all);
    }

left-more : (objects : List Object) (addresses sizes : CValue) (count : ℕ) (address size : CValue) (left less : ℕ) (text piece : List ℕ) → left ≡ suc less →
    Ok piece ≡ piece_at objects address size →
    pieces objects addresses sizes count ≡ after (pieces objects address size left) (λ later. Ok (text ++ later)) →
    pieces objects addresses sizes count ≡ after (pieces objects (shifted 1 address) (shifted 4 size) less) (λ later. Ok (text ++ piece ++ later))
left-more objects addresses sizes count address size left less text piece more is whole =
    whole
    ∙ ap (λ left. after (pieces objects address size left) (λ later. Ok (text ++ later))) more
    ∙ ap (λ found. after found (λ later. Ok (text ++ later))) (pieces-more objects address size less
    ∙ known (piece_at objects address size) piece _ is)
    ∙ behind (pieces objects (shifted 1 address) (shifted 4 size) less) _ _
    ∙ same-rest (pieces objects (shifted 1 address) (shifted 4 size) less) _ _ (λ later. ap Ok (sym (append_assoc text piece later)))

pub collecting-more : (objects : List Object) (addresses sizes : CValue) (count : ℕ) (address size next behind_size : CValue) (left less : ℕ) (buffer new piece : List ℕ) (used now : ℕ) →
    left ≡ suc less → next ≡ shifted 1 address → behind_size ≡ shifted 4 size → Collecting objects addresses sizes count address size left buffer used → Ok piece ≡ piece_at objects address size →
    ((text : List ℕ) → Gathers buffer used text → Gathers new now (text ++ piece)) → now ≤ length new →
    Collecting objects addresses sizes count next behind_size less new now
collecting-more objects addresses sizes count address size next behind_size left less buffer new piece used now more n b before is gathers within =
    record {
      text = before.text ++ piece;
      held = record { gathered = gathers before.text before.held.gathered; within = within };
      whole = left-more objects addresses sizes count address size left less before.text piece more is before.whole
          ∙ ap (λ address. after (pieces objects address (shifted 4 size) less) (λ later. Ok (before.text ++ piece ++ later))) (sym n)
          ∙ ap (λ size. after (pieces objects next size less) (λ later. Ok (before.text ++ piece ++ later))) (sym b);
    }

pub collecting-fault : (objects : List Object) (addresses sizes : CValue) (count : ℕ) (address size : CValue) (left less : ℕ) (buffer : List ℕ) (used : ℕ) (fault : CFault) →
    left ≡ suc less → Collecting objects addresses sizes count address size left buffer used → failing fault ≡ piece_at objects address size →
    pieces objects addresses sizes count ≡ failing fault
collecting-fault objects addresses sizes count address size left less buffer used fault more before is =
    before.whole
    ∙ ap (λ left. after (pieces objects address size left) (λ later. Ok (before.text ++ later))) more
    ∙ ap (λ found. after found (λ later. Ok (before.text ++ later))) (pieces-more objects address size less
    ∙ faulty (piece_at objects address size) fault _ is)

pub collected : (objects : List Object) (addresses sizes : CValue) (count : ℕ) (address size : CValue) (left : ℕ) (buffer : List ℕ) (used : ℕ) →
    left ≡ 0 → Collecting objects addresses sizes count address size left buffer used → Collects (pieces objects addresses sizes count) buffer (Ok used)
collected objects addresses sizes count address size left buffer used none before = (
  before.text,
  before.whole ∙ ap (λ left. after (pieces objects address size left) (λ later. Ok (before.text ++ later))) none ∙ ap Ok (append-nil before.text),
  before.held,
)

-- what is read stands within its object
abbrev pub IsBehind : ℕ → ℕ → CValue → Type 0
IsBehind distance size (Pointer object offset) = offset + distance ≤ size
IsBehind distance size other = Unit {0}

value-within : (access : Access) (values : List (Option CValue)) (offset : ℕ) (found : Option (Option CValue)) (typed : Typed) →
    slice_get values offset ≡ found → read_held access found ≡ Ok typed → offset + 1 ≤ length values
value-within access values offset None typed is read = absurd (cc)
value-within access values offset (Some value) typed is read = omega (arith, slice_get_within values offset value is)

held-within : (values : List (Option CValue)) (offset : ℕ) (typed : Typed) (right : Bool) →
    (if right then read_held (ToPointer ToChar) (slice_get values offset) else failing Kind) ≡ Ok typed → offset + 1 ≤ length values
held-within values offset typed true read = value-within (ToPointer ToChar) values offset (slice_get values offset) typed refl read
held-within values offset typed false read = absurd (cc)

address-within : (objects : List Object) (object offset size : ℕ) (found : Option Object) (typed : Typed) → HasRoom size objects → slice_get objects object ≡ found →
    read_object (ToPointer ToChar) offset found ≡ Ok typed → offset + 1 ≤ size
address-within objects object offset size None typed room is read = absurd (cc)
address-within objects object offset size (Some (Bytes bytes)) typed room is read = absurd (cc)
address-within objects object offset size (Some (Values held)) typed room is read =
    omega (arith, room object (Values held) is, held-within held.values offset typed (holds held.type (ToPointer ToChar)) read)

pub address-behind : (objects : List Object) (size : ℕ) (address : CValue) (typed : Typed) → HasRoom size objects →
    fetched objects (record { at = address; access = ToPointer ToChar }) ≡ Ok typed → IsBehind 1 size address
unfolding fetched
address-behind objects size (Pointer object offset) typed room read = address-within objects object offset size (slice_get objects object) typed room refl read
address-behind objects size (Number number) typed room read = tt
address-behind objects size Null typed room read = tt
address-behind objects size (Function number) typed room read = tt

four-within : (bytes : List (Option ℕ)) (offset : ℕ) (fits : Bool) (text : List ℕ) → nat_le (offset + 4) (length bytes) ≡ fits →
    (if fits then all_set (take 4 (drop offset bytes)) else failing Outside) ≡ Ok text → offset + 4 ≤ length bytes
four-within bytes offset true text is read = grind (arith, nat_tests)
four-within bytes offset false text is read = absurd (cc)

bytes-within : (bytes : List (Option ℕ)) (offset : ℕ) (four : Or (List ℕ)) (typed : Typed) → bytes_at offset 4 bytes ≡ four →
    after (after four (λ four. Ok (number_from four))) (λ number. Ok (plain (Number number))) ≡ Ok typed → offset + 4 ≤ length bytes
bytes-within bytes offset (Ok text) typed is read = four-within bytes offset (nat_le (offset + 4) (length bytes)) text refl is
bytes-within bytes offset (Err reason) typed is read = absurd (cc)

number-read : (bytes : List (Option ℕ)) (offset : ℕ) (even : Bool) (typed : Typed) →
    after (if even then after (bytes_at offset 4 bytes) (λ four. Ok (number_from four)) else failing Outside) (λ number. Ok (plain (Number number))) ≡ Ok typed →
    offset + 4 ≤ length bytes
number-read bytes offset true typed read = bytes-within bytes offset (bytes_at offset 4 bytes) typed refl read
number-read bytes offset false typed read = absurd (cc)

-- no object of values holds numbers of bytes
no-number : (type : Access) → holds type ToNumber ≡ false
no-number ToNumber = refl
no-number ToChar = refl
no-number ToByte = refl
no-number (ToList list_type) = refl
no-number (ToField kind) = refl
no-number (ToPointer ToNumber) = refl
no-number (ToPointer ToChar) = refl
no-number (ToPointer ToByte) = refl
no-number (ToPointer (ToList list_type)) = refl
no-number (ToPointer (ToField kind)) = refl
no-number (ToPointer (ToPointer through)) = refl
no-number (ToPointer ToFunction) = refl
no-number (ToPointer ToNothing) = refl
no-number ToFunction = refl
no-number ToNothing = refl

held-nowhere : (held : Held) (offset : ℕ) (typed : Typed) → read_object ToNumber offset (Some (Values held)) ≡ Ok typed → ⊥
held-nowhere held offset typed read =
    by (holds held.type ToNumber) (no-number held.type) read
  where
    by : (right : Bool) → right ≡ false → (if right then read_held ToNumber (slice_get held.values offset) else failing Kind) ≡ Ok typed → ⊥
    by true is read = absurd (cc)
    by false is read = absurd (cc)

number-within : (objects : List Object) (object offset size : ℕ) (found : Option Object) (typed : Typed) → HasRoom size objects → slice_get objects object ≡ found →
    read_object ToNumber offset found ≡ Ok typed → offset + 4 ≤ size
number-within objects object offset size None typed room is read = absurd (cc)
number-within objects object offset size (Some (Bytes bytes)) typed room is read =
    omega (arith, room object (Bytes bytes) is, number-read bytes offset (nat_eq (offset % 4) 0) typed read)
number-within objects object offset size (Some (Values held)) typed room is read = absurd (held-nowhere held offset typed read)

pub number-behind : (objects : List Object) (size : ℕ) (address : CValue) (typed : Typed) → HasRoom size objects →
    fetched objects (record { at = address; access = ToNumber }) ≡ Ok typed → IsBehind 4 size address
unfolding fetched
number-behind objects size (Pointer object offset) typed room read = number-within objects object offset size (slice_get objects object) typed room refl read
number-behind objects size (Number number) typed room read = tt
number-behind objects size Null typed room read = tt
number-behind objects size (Function number) typed room read = tt

can-shift : (distance size : ℕ) (pointer : CValue) → size < 2 ^ 64 → IsBehind distance size pointer → CanShift distance pointer
can-shift distance size (Pointer object offset) small is = omega arith
can-shift distance size (Number number) small is = tt
can-shift distance size Null small is = tt
can-shift distance size (Function number) small is = tt

pub shifts-address : (objects : List Object) (size : ℕ) (address length_at : CValue) (piece : List ℕ) → HasRoom size objects → size < 2 ^ 64 →
    Ok piece ≡ piece_at objects address length_at → CanShift 1 address
shifts-address objects size address length_at piece room small is =
    by (fetched objects (record { at = address; access = ToPointer ToChar })) refl (sym is)
  where
    by : (found : Or Typed) → fetched objects (record { at = address; access = ToPointer ToChar }) ≡ found →
        after found (λ held. after (number_through objects length_at) λ number. after (count_from number) λ size. text_at objects held.value size) ≡ Ok piece → CanShift 1 address
    by (Ok typed) known is = can-shift 1 size address small (address-behind objects size address typed room known)
    by (Err reason) known is = absurd (cc)

pub shifts-length : (objects : List Object) (size : ℕ) (address length_at : CValue) (piece : List ℕ) → HasRoom size objects → size < 2 ^ 64 →
    Ok piece ≡ piece_at objects address length_at → CanShift 4 length_at
shifts-length objects size address length_at piece room small is =
    by (fetched objects (record { at = address; access = ToPointer ToChar })) (fetched objects (record { at = length_at; access = ToNumber })) refl (sym is)
  where
    by : (held : Or Typed) (found : Or Typed) → fetched objects (record { at = length_at; access = ToNumber }) ≡ found →
        after held (λ held. after (after found (λ typed. as_number typed.value)) λ number. after (count_from number) λ size. text_at objects held.value size) ≡ Ok piece → CanShift 4 length_at
    by (Ok held) (Ok typed) known is = can-shift 4 size length_at small (number-behind objects size length_at typed room known)
    by (Ok held) (Err reason) known is = absurd (cc)
    by (Err reason) found known is = absurd (cc)
