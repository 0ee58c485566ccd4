-- A text that is put together in a buffer, and stored whole.
use Rattle.std.proofs.Common.{◌≡◌, ℕ, ◌+◌, ◌-◌, ◌≤◌, ◌<◌, ◌%◌, ℤ, Bool, true, false, if◌then◌else◌, List, [], ◌∷◌, ◌++◌, length, take, replicate, Option, Some, None, refl, ap, sym, ◌∙◌, subst, arith, append_assoc, length-append, ◌⊎◌, inl, inr}
use Rattle.std.specs.Prelude.{nat_le, nat_eq, min, slice_set, slice_get, option_map, Result, Ok, Err}
use Rattle.std.proofs.lemmas.Bool.{cases_lt}
use Rattle.std.proofs.lemmas.Bool.Decides.{nat_tests}
use Rattle.std.proofs.lemmas.List.{length-replicate, take-replicate, replicate-append-replicate}
use Rattle.std.proofs.lemmas.Option.{slice_get-map}
use Rattle.c_tree.specs.declared.outcome.CValue.{CValue}
use Rattle.c_tree.specs.declared.outcome.CValue.TheVariants.{Number, Pointer, Null, Function}
use Rattle.c_tree.specs.declared.outcome.CFault.{CFault}
use Rattle.c_tree.specs.declared.outcome.CFault.TheVariants.{Outside, Kind}
use Rattle.c_tree.specs.Faults.{Or, after, failing}
use Rattle.c_tree.specs.Access.{ToNumber}
use Rattle.c_tree.specs.Objects.{Object, Bytes, Values, Held, extent, overlaid, with_bytes, bytes_of_number, with_value, holds, put_object, stored}
use Rattle.c_tree.specs.LibraryArguments.{store_text, text_stored, shifted, fitted}
use Rattle.run_bytes.specs.Layout.{unset_object, Stores}
use Rattle.item_deeds.specs.Forms.{SameForms}
use Rattle.library_calls.specs.Room.{HasRoom}
use Rattle.listed_output.proofs.ItemLaws.{no-number}
use Rattle.listed_input.proofs.StoreLaws.{put_at, take-none, take-both, length-taken}
use Rattle.internal_input.specs.Texts.{saturated, fault_in, past_fault, Gathered, StoresPart, StoresWhole}

-- ## Room

unset-extent : (object : Object) → extent (unset_object object) ≡ extent object
unset-extent (Bytes bytes) = length-replicate _ _
unset-extent (Values held) = length-replicate _ _

same-extent : (new old : Object) → unset_object new ≡ unset_object old → extent old ≡ extent new
same-extent new old same = sym (unset-extent old) ∙ ap extent (sym same) ∙ unset-extent new

found-room : (size number : ℕ) (old : List Object) (object : Object) (found : Option Object) → slice_get old number ≡ found → option_map unset_object found ≡ Some (unset_object object) → HasRoom size old → extent object ≤ size
found-room size number old object None is same room = absurd (cc)
found-room size number old object (Some before) is same room =
    let alike : unset_object object ≡ unset_object before = cc in
    subst (λ (count : ℕ). count ≤ size) (same-extent object before alike) (room number before is)

-- the objects keep their numbers of bytes or values
pub room-kept : (size : ℕ) (old new : List Object) → HasRoom size old → SameForms old new → HasRoom size new
room-kept size old new room same = λ number object is.
    found-room size number old object (slice_get old number) refl
    (sym (slice_get-map unset_object old number) ∙ ap (λ (all : List Object). slice_get all number) (sym same.same) ∙ slice_get-map unset_object new number ∙ ap (option_map unset_object) is)
    room

pub room-resized : (size other : ℕ) (objects : List Object) → size ≡ other → HasRoom size objects → HasRoom other objects
room-resized size other objects is room = subst (λ (n : ℕ). HasRoom n objects) is room

-- ## A text that no object has room for

past-bytes : (offset : ℕ) (text : List ℕ) (bytes : List (Option ℕ)) (fits : Bool) → nat_le (offset + length text) (length bytes) ≡ fits → length bytes < offset + length text →
    (if fits then Ok (Bytes (overlaid offset text bytes)) else failing Outside) ≡ failing Outside
past-bytes offset text bytes true tested past =
    let within : offset + length text ≤ length bytes = grind (arith, nat_tests) in absurd (omega (arith, within, past))
past-bytes offset text bytes false tested past = refl

past-found : (objects : List Object) (object offset room : ℕ) (text : List ℕ) (found : Option Object) → slice_get objects object ≡ found → HasRoom room objects → room < offset + length text →
    put_at objects object offset text found ≡ failing (fault_in found)
past-found objects object offset room text None is large past = refl
past-found objects object offset room text (Some (Bytes bytes)) is large past =
    let fits : length bytes ≤ room = large object (Bytes bytes) is in
    ap (λ (made : Or Object). after made λ changed. Ok (slice_set objects object changed))
    (past-bytes offset text bytes (nat_le (offset + length text) (length bytes)) refl (omega (arith, fits, past)))
past-found objects object offset room text (Some (Values held)) is large past = refl

past-stored : (objects : List Object) (pointer : CValue) (room : ℕ) (text : List ℕ) → HasRoom room objects → room < length text → store_text objects pointer text ≡ failing (past_fault objects pointer)
past-stored objects (Pointer object offset) room text large past = past-found objects object offset room text (slice_get objects object) refl large (omega (arith, past))
past-stored objects (Number number) room text large past = refl
past-stored objects Null room text large past = refl
past-stored objects (Function number) room text large past = refl

past-text : (objects : List Object) (pointer : CValue) (room : ℕ) (text : List ℕ) → HasRoom room objects → room < length text → text_stored objects pointer text ≡ failing (past_fault objects pointer)
past-text objects pointer room [] large past = absurd (omega (arith, past))
past-text objects pointer room (x ∷ xs) large past = past-stored objects pointer room (x ∷ xs) large past

-- ## Offsets that no object has

-- an offset, or one with which no object has a byte at either
abbrev IsLike : ℕ → ℕ → ℕ → Type 0
IsLike room cut offset = (cut ≡ offset) ⊎ ((room < cut) × (room < offset))

cut-is : (offset limit room : ℕ) → room < limit → IsLike room (min offset limit) offset
cut-is offset limit room below = by (cases_lt offset limit)
  where
    by : (offset < limit) ⊎ (limit ≤ offset) → IsLike room (min offset limit) offset
    by (inl less) = inl (omega (arith, less))
    by (inr past) = inr (omega (arith, below, past), omega (arith, below, past))

text-like : (objects : List Object) (object offset cut room : ℕ) (text : List ℕ) → HasRoom room objects → IsLike room cut offset →
    put_at objects object cut text (slice_get objects object) ≡ put_at objects object offset text (slice_get objects object)
text-like objects object offset cut room text large (inl same) = ap (λ (n : ℕ). put_at objects object n text (slice_get objects object)) same
text-like objects object offset cut room text large (inr past) =
    past-found objects object cut room text (slice_get objects object) refl large (omega (arith, past.0))
    ∙ sym (past-found objects object offset room text (slice_get objects object) refl large (omega (arith, past.1)))

text-cut : (objects : List Object) (pointer : CValue) (room : ℕ) (text : List ℕ) → HasRoom room objects → room < 18446744073709551615 →
    store_text objects (saturated pointer) text ≡ store_text objects pointer text
text-cut objects (Pointer object offset) room text large below =
    text-like objects object offset (min offset 18446744073709551615) room text large (cut-is offset 18446744073709551615 room below)
text-cut objects (Number number) room text large below = refl
text-cut objects Null room text large below = refl
text-cut objects (Function number) room text large below = refl

pub text-saturated : (objects : List Object) (pointer : CValue) (room : ℕ) (text : List ℕ) → HasRoom room objects → room < 18446744073709551615 →
    text_stored objects (saturated pointer) text ≡ text_stored objects pointer text
text-saturated objects pointer room [] large below = refl
text-saturated objects pointer room (x ∷ xs) large below = text-cut objects pointer room (x ∷ xs) large below

-- a number at an offset that no object has
past-number : (offset : ℕ) (number : ℤ) (bytes : List (Option ℕ)) (even : Bool) → length bytes < offset →
    (if even then with_bytes offset (bytes_of_number number) bytes else failing Outside) ≡ failing Outside
past-number offset number bytes true past =
    past-bytes offset (bytes_of_number number) bytes (nat_le (offset + length (bytes_of_number number)) (length bytes)) refl (omega (arith, past))
past-number offset number bytes false past = refl

abbrev number_at : List Object → ℕ → ℕ → ℤ → Option Object → Or (List Object)
number_at objects object offset number found = after (put_object ToNumber offset (Number number) found) λ changed. Ok (slice_set objects object changed)

number-held : (objects : List Object) (object offset cut : ℕ) (number : ℤ) (held : Held) (right : Bool) → right ≡ false →
    after (if right then with_value cut (Number number) held else failing Kind) (λ changed. Ok (slice_set objects object changed))
    ≡ after (if right then with_value offset (Number number) held else failing Kind) (λ changed. Ok (slice_set objects object changed))
number-held objects object offset cut number held true is = absurd (cc)
number-held objects object offset cut number held false is = refl

number-past : (objects : List Object) (object offset cut room : ℕ) (number : ℤ) (found : Option Object) → slice_get objects object ≡ found → HasRoom room objects → room < cut → room < offset →
    number_at objects object cut number found ≡ number_at objects object offset number found
number-past objects object offset cut room number None is large one other = refl
number-past objects object offset cut room number (Some (Bytes bytes)) is large one other =
    let fits : length bytes ≤ room = large object (Bytes bytes) is in
    ap (λ (made : Or Object). after made λ changed. Ok (slice_set objects object changed))
    (past-number cut number bytes (nat_eq (cut % 4) 0) (omega (arith, fits, one)) ∙ sym (past-number offset number bytes (nat_eq (offset % 4) 0) (omega (arith, fits, other))))
number-past objects object offset cut room number (Some (Values held)) is large one other = number-held objects object offset cut number held (holds held.type ToNumber) (no-number held.type)

number-like : (objects : List Object) (object offset cut room : ℕ) (number : ℤ) → HasRoom room objects → IsLike room cut offset →
    number_at objects object cut number (slice_get objects object) ≡ number_at objects object offset number (slice_get objects object)
number-like objects object offset cut room number large (inl same) = ap (λ (n : ℕ). number_at objects object n number (slice_get objects object)) same
number-like objects object offset cut room number large (inr past) = number-past objects object offset cut room number (slice_get objects object) refl large past.0 past.1

pub number-saturated : (objects : List Object) (pointer : CValue) (room : ℕ) (number : ℤ) → HasRoom room objects → room < 18446744073709551615 →
    stored objects (record { at = saturated pointer; access = ToNumber }) (Number number) ≡ stored objects (record { at = pointer; access = ToNumber }) (Number number)
unfolding stored
number-saturated objects (Pointer object offset) room number large below =
    number-like objects object offset (min offset 18446744073709551615) room number large (cut-is offset 18446744073709551615 room below)
number-saturated objects (Number other) room number large below = refl
number-saturated objects Null room number large below = refl
number-saturated objects (Function other) room number large below = refl

-- a pointer that stands for another: it is that one, or has its offset up to 64 bits
abbrev pub StandsAt : CValue → CValue → Type 0
StandsAt place pointer = (place ≡ pointer) ⊎ (place ≡ saturated pointer)

cut-twice : (offset size limit : ℕ) → min (min offset limit + size) limit ≡ min (offset + size) limit
cut-twice offset size limit = omega arith

saturated-twice : (pointer : CValue) (size : ℕ) → saturated (shifted size (saturated pointer)) ≡ saturated (shifted size pointer)
saturated-twice (Pointer object offset) size = ap (Pointer object) (cut-twice offset size 18446744073709551615)
saturated-twice (Number number) size = refl
saturated-twice Null size = refl
saturated-twice (Function number) size = refl

pub stands-behind : (place next pointer : CValue) (size : ℕ) → next ≡ saturated (shifted size place) → StandsAt place pointer → StandsAt next (shifted size pointer)
stands-behind place next pointer size is (inl same) = inr (is ∙ ap (λ (one : CValue). saturated (shifted size one)) same)
stands-behind place next pointer size is (inr cut) = inr (is ∙ ap (λ (one : CValue). saturated (shifted size one)) cut ∙ saturated-twice pointer size)

-- ## The text in the buffer

pub gathered-none : (buffer : List ℕ) (size : ℕ) → Gathered buffer size [] 0
gathered-none buffer size = record { done_is = sym (ap length (take-none {A = ℕ} size)); stands = λ fits. sym (take-none {A = ℕ} size) }

pub part-past : (buffer : List ℕ) (pointer : CValue) (done : ℕ) (old new : List Object) (fault : CFault) → HasRoom (length buffer) old → length buffer < done → fault ≡ past_fault old pointer →
    StoresPart buffer pointer done old new (Err fault)
part-past buffer pointer done old new fault large past is =
    λ size text gathered. past-text old pointer (length buffer) (take size text) large (omega (arith, past, gathered.done_is)) ∙ ap failing (sym is)

fitted-is : (size done : ℕ) (text : List ℕ) → done ≡ length (take size text) → fitted size text ≡ take size text ++ replicate (size - done) 32
fitted-is size done text is =
    take-both ℕ size text (replicate (size - length text) 32)
    ∙ ap (λ (part : List ℕ). take size text ++ part) (take-replicate (size - length text) (size - length text) 32 (omega arith))
    ∙ ap (λ (n : ℕ). take size text ++ replicate n 32) (sym (length-taken size text) ∙ ap (λ (n : ℕ). size - n) (sym is))

whole-is : (buffer buffer' : List ℕ) (size done : ℕ) (text : List ℕ) → take size buffer' ≡ take done buffer ++ replicate (size - done) 32 → done ≤ length buffer → Gathered buffer size text done →
    fitted size text ≡ take size buffer'
whole-is buffer buffer' size done text blanks fits gathered =
    fitted-is size done text gathered.done_is ∙ ap (λ (front : List ℕ). front ++ replicate (size - done) 32) (sym (gathered.stands fits)) ∙ sym blanks

pub whole-stored : (buffer buffer' : List ℕ) (pointer : CValue) (size done : ℕ) (old new : List Object) (result : Result (Unit {0}) CFault) →
    take size buffer' ≡ take done buffer ++ replicate (size - done) 32 → done ≤ length buffer → Stores (λ all. text_stored all pointer (take size buffer')) old new result →
    StoresWhole buffer pointer size done old new result
whole-stored buffer buffer' pointer size done old new (Ok ok) blanks fits stores =
    λ text gathered. ap (text_stored old pointer) (whole-is buffer buffer' size done text blanks fits gathered) ∙ stores
whole-stored buffer buffer' pointer size done old new (Err fault) blanks fits stores =
    λ text gathered. ap (text_stored old pointer) (whole-is buffer buffer' size done text blanks fits gathered) ∙ stores.0

pub whole-past : (buffer : List ℕ) (pointer : CValue) (size done : ℕ) (old new : List Object) (fault : CFault) → HasRoom (length buffer) old → length buffer < size → done ≤ size →
    fault ≡ past_fault old pointer → StoresWhole buffer pointer size done old new (Err fault)
whole-past buffer pointer size done old new fault large past within is =
    λ text gathered.
    let long : length (fitted size text) ≡ length (take size text ++ replicate (size - done) 32) = ap length (fitted-is size done text gathered.done_is) in
    past-text old pointer (length buffer) (fitted size text) large
    (omega (arith, past, within, long, gathered.done_is, length-append (take size text) (replicate (size - done) 32), length-replicate (size - done) (let blank : ℕ = 32 in blank)))
    ∙ ap failing (sym is)

-- ## Blanks in the buffer

pub blanks-start : (buffer : List ℕ) (done : ℕ) → take done buffer ≡ take done buffer ++ replicate (done - done) 32
blanks-start buffer done =
    sym (ap (λ (n : ℕ). take done buffer ++ replicate n 32) (let e : done - done ≡ 0 = omega arith in e) ∙ none (take done buffer))
  where
    none : (xs : List ℕ) → xs ++ [] ≡ xs
    none [] = refl
    none (x ∷ xs) = ap (λ (rest : List ℕ). x ∷ rest) (none xs)

pub blanks-more : (first old new blank : List ℕ) (done filled size count : ℕ) → blank ≡ replicate 64 32 → count ≡ min (size - filled) 64 → done ≤ filled →
    take (filled + length (take count blank)) new ≡ take filled old ++ take count blank → take filled old ≡ take done first ++ replicate (filled - done) 32 →
    take (filled + count) new ≡ take done first ++ replicate ((filled + count) - done) 32
blanks-more first old new blank done filled size count blank_is least from wrote before =
    let piece : take count blank ≡ replicate count 32 = ap (take count) blank_is ∙ take-replicate count 64 32 (omega (arith, least)) in
    let long : length (take count blank) ≡ count = ap length piece ∙ length-replicate count (let blank_byte : ℕ = 32 in blank_byte) in
    ap (λ (n : ℕ). take (filled + n) new) (sym long) ∙ wrote
    ∙ ap (λ (part : List ℕ). take filled old ++ part) piece
    ∙ ap (λ (part : List ℕ). part ++ replicate count 32) before
    ∙ append_assoc (take done first) (replicate (filled - done) 32) (replicate count 32)
    ∙ ap (λ (part : List ℕ). take done first ++ part)
    (replicate-append-replicate (filled - done) count 32 ∙ ap (λ (n : ℕ). replicate n 32) (let e : (filled - done) + count ≡ (filled + count) - done = omega (arith, from) in e))
