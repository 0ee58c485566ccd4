-- The items of a call as bytes, one behind the other.
use Rattle.std.proofs.Common.{◌≡◌, ℕ, zero, suc, ◌+◌, ◌-◌, ◌*◌, ◌≤◌, ◌<◌, ◌%◌, ℤ, pos, Bool, true, false, List, [], ◌∷◌, ◌++◌, length, take, drop, Option, Some, None, refl, ap, sym, ◌∙◌, subst, arith, length-drop, ◌⊎◌, inl, inr, add-one}
use Rattle.std.specs.Prelude.{Result, Ok, Err, IfOk, slice_get, nat_le, nat_eq, not, if◌then◌else◌}
use Rattle.std.specs.Ordering.{int_eq}
use Rattle.std.proofs.lemmas.Bool.{cases_lt}
use Rattle.std.proofs.lemmas.Bool.Decides.{nat_tests}
use Rattle.std.proofs.lemmas.List.{take-append-le, drop-append-le, length-take-le, take_all}
use Rattle.c_tree.specs.declared.outcome.CValue.{CValue}
use Rattle.c_tree.specs.declared.outcome.CValue.TheVariants.{Number, Pointer, Null, Function}
use Rattle.c_tree.specs.declared.outcome.CFault.{CFault}
use Rattle.c_tree.specs.declared.outcome.CFault.TheVariants.{Kind, Outside}
use Rattle.c_tree.specs.Faults.{Or, after, failing}
use Rattle.c_tree.specs.Access.{ToNumber}
use Rattle.c_tree.specs.Objects.{Object, Bytes, Values, Held, extent, fetched, read_object, read_held, number_from, bytes_at, all_set, plain, as_number, holds}
use Rattle.c_tree.specs.LibraryArguments.{number_through, text_in, text_through, text_at, shifted}
use Rattle.c_tree.specs.TransferOutput.{ItemKind, IntegerItem, LogicalItem, TextItem, item_at, items_at}
use Rattle.c_tree.specs.edit_meaning.Listed.{ListedValue, Int, Logical}
use Rattle.run_bytes.specs.Answers.{answered}
use Rattle.library_calls.specs.Room.{HasRoom}
use Rattle.listed_output.specs.declared.kinds.ItemList.{ItemList}
use Rattle.listed_output.specs.Kinds.{kind_shown, has_size}
use Rattle.listed_output.proofs.ItemLaws.{no-number, has-four, Reading, reading-starts, reading-goes_on, reading-faulty, reading-done}
use Rattle.internal_output.specs.Items.{value_in, values_in, AreGathered}

-- ## The bytes of an item

-- as many bytes as are asked for
one-more : (byte : ℕ) (text : List ℕ) (found : Or (List ℕ)) (size : ℕ) → ((later : List ℕ) → found ≡ Ok later → length later ≡ size) → after found (λ bytes. Ok (byte ∷ bytes)) ≡ Ok text →
    length text ≡ suc size
one-more byte text (Ok later) size long is =
    let same : byte ∷ later ≡ text = cc in ap length (sym same) ∙ ap suc (long later refl)
one-more byte text (Err reason) size long is = absurd (cc)

set-length : (cells : List (Option ℕ)) (text : List ℕ) → all_set cells ≡ Ok text → length text ≡ length cells
set-length [] text is = let same : (let none : List ℕ = [] in none) ≡ text = cc in ap length (sym same)
set-length (None ∷ rest) text is = absurd (cc)
set-length (Some byte ∷ rest) text is = one-more byte text (all_set rest) (length rest) (λ later here. set-length rest later here) is

record Within (offset size : ℕ) (bytes : List (Option ℕ)) (text : List ℕ) : Type 0 where
  long : length text ≡ size
  fits : offset + size ≤ length bytes

within-tested : (bytes : List (Option ℕ)) (offset size : ℕ) (test : Bool) (text : List ℕ) → nat_le (offset + size) (length bytes) ≡ test →
    (if test then all_set (take size (drop offset bytes)) else failing Outside) ≡ Ok text → Within offset size bytes text
within-tested bytes offset size true text fits is =
    let within : offset + size ≤ length bytes = grind (arith, nat_tests) in
    record {
      long = set-length (take size (drop offset bytes)) text is ∙ length-take-le size (drop offset bytes) (omega (arith, length-drop offset bytes));
      fits = within;
    }
within-tested bytes offset size false text fits is = absurd (cc)

-- a text that is there: it is empty, or stands within its object
pub record TextThere (objects : List Object) (pointer : CValue) (size : ℕ) (text : List ℕ) : Type 0 where
  pub long : length text ≡ size
  pub stands : (0 < size) → (object : ℕ) × (offset : ℕ) × (held : Object) × (pointer ≡ Pointer object offset) × (slice_get objects object ≡ Some held) × (offset + size ≤ extent held)

text-inside : (objects : List Object) (object offset size : ℕ) (found : Option Object) (text : List ℕ) → slice_get objects object ≡ found → text_in found offset size ≡ Ok text →
    TextThere objects (Pointer object offset) size text
text-inside objects object offset size None text at is = absurd (cc)
text-inside objects object offset size (Some (Bytes bytes)) text at is =
    let there : Within offset size bytes text = within-tested bytes offset size (nat_le (offset + size) (length bytes)) text refl is in
    record { long = there.long; stands = λ some. (object, offset, Bytes bytes, refl, at, there.fits) }
text-inside objects object offset size (Some (Values held)) text at is = absurd (cc)

text-through : (objects : List Object) (pointer : CValue) (size : ℕ) (text : List ℕ) → text_through objects pointer size ≡ Ok text → TextThere objects pointer size text
text-through objects (Pointer object offset) size text is = text-inside objects object offset size (slice_get objects object) text refl is
text-through objects Null size text is = absurd (cc)
text-through objects (Number number) size text is = absurd (cc)
text-through objects (Function number) size text is = absurd (cc)

text-tested : (objects : List Object) (pointer : CValue) (size : ℕ) (none : Bool) (text : List ℕ) → nat_eq size 0 ≡ none →
    (if none then Ok [] else text_through objects pointer size) ≡ Ok text → TextThere objects pointer size text
text-tested objects pointer size true text none is =
    let zero_size : size ≡ 0 = grind (arith, nat_tests) in
    let same : (let empty : List ℕ = [] in empty) ≡ text = cc in
    record { long = ap length (sym same) ∙ sym zero_size; stands = λ some. absurd (omega arith) }
text-tested objects pointer size false text none is = text-through objects pointer size text is

pub text-there : (objects : List Object) (pointer : CValue) (size : ℕ) (text : List ℕ) → text_at objects pointer size ≡ Ok text → TextThere objects pointer size text
text-there objects pointer size text is = text-tested objects pointer size (nat_eq size 0) text refl is

-- the number of four bytes is what they hold
abbrev number_of : Or (List ℕ) → Or ℤ
number_of found = after found λ four. Ok (number_from four)

even-number : (bytes : List (Option ℕ)) (offset : ℕ) (even : Bool) (number : ℤ) →
    after (after (if even then number_of (bytes_at offset 4 bytes) else failing Outside) (λ z. Ok (plain (Number z)))) (λ typed. as_number typed.value) ≡ Ok number →
    number_of (bytes_at offset 4 bytes) ≡ Ok number
even-number bytes offset true number is = by (number_of (bytes_at offset 4 bytes)) is
  where
    by : (found : Or ℤ) → after (after found (λ z. Ok (plain (Number z)))) (λ typed. as_number typed.value) ≡ Ok number → found ≡ Ok number
    by (Ok z) made = made
    by (Err reason) made = absurd (cc)
even-number bytes offset false number is = absurd (cc)

-- no object of values holds numbers of bytes
held-nowhere : (held : Held) (offset : ℕ) (number : ℤ) (right : Bool) → right ≡ false →
    after (if right then read_held ToNumber (slice_get held.values offset) else failing Kind) (λ typed. as_number typed.value) ≡ Ok number → ⊥
held-nowhere held offset number true is read = absurd (cc)
held-nowhere held offset number false is read = absurd (cc)

number-inside : (offset : ℕ) (found : Option Object) (number : ℤ) → after (read_object ToNumber offset found) (λ typed. as_number typed.value) ≡ Ok number →
    number_of (text_in found offset 4) ≡ Ok number
number-inside offset None number is = absurd (cc)
number-inside offset (Some (Bytes bytes)) number is = even-number bytes offset (nat_eq (offset % 4) 0) number is
number-inside offset (Some (Values held)) number is = absurd (held-nowhere held offset number (holds held.type ToNumber) (no-number held.type) is)

number-bytes : (objects : List Object) (pointer : CValue) (number : ℤ) → number_through objects pointer ≡ Ok number → number_of (text_at objects pointer 4) ≡ Ok number
unfolding fetched
number-bytes objects (Pointer object offset) number is = number-inside offset (slice_get objects object) number is
number-bytes objects Null number is = absurd (cc)
number-bytes objects (Number other) number is = absurd (cc)
number-bytes objects (Function other) number is = absurd (cc)

-- the value of an item is that of its bytes
abbrev value_of_text : ItemKind → Or (List ℕ) → Or ListedValue
value_of_text kind found = after found λ bytes. Ok (value_in kind bytes)

integer-value : (text : Or (List ℕ)) (number : ℤ) → number_of text ≡ Ok number → value_of_text IntegerItem text ≡ Ok (Int number)
integer-value (Ok bytes) number is =
    let same : number_from bytes ≡ number = cc in ap (λ (z : ℤ). Ok (Int z)) same
integer-value (Err reason) number is = absurd (cc)

logical-value : (text : Or (List ℕ)) (number : ℤ) → number_of text ≡ Ok number → value_of_text LogicalItem text ≡ Ok (Logical (not (int_eq number (pos 0))))
logical-value (Ok bytes) number is =
    let same : number_from bytes ≡ number = cc in ap (λ (z : ℤ). Ok (Logical (not (int_eq z (pos 0))))) same
logical-value (Err reason) number is = absurd (cc)

integer-bytes : (objects : List Object) (pointer : CValue) (value : ListedValue) (found : Or ℤ) → number_through objects pointer ≡ found → after found (λ number. Ok (Int number)) ≡ Ok value →
    value_of_text IntegerItem (text_at objects pointer 4) ≡ Ok value
integer-bytes objects pointer value (Ok number) there is = integer-value (text_at objects pointer 4) number (number-bytes objects pointer number there) ∙ is
integer-bytes objects pointer value (Err reason) there is = absurd (cc)

logical-bytes : (objects : List Object) (pointer : CValue) (value : ListedValue) (found : Or ℤ) → number_through objects pointer ≡ found →
    after found (λ number. Ok (Logical (not (int_eq number (pos 0))))) ≡ Ok value → value_of_text LogicalItem (text_at objects pointer 4) ≡ Ok value
logical-bytes objects pointer value (Ok number) there is = logical-value (text_at objects pointer 4) number (number-bytes objects pointer number there) ∙ is
logical-bytes objects pointer value (Err reason) there is = absurd (cc)

item-text : (kind : ItemKind) (objects : List Object) (pointer : CValue) (size : ℕ) (value : ListedValue) → has_size kind size ≡ true → item_at kind objects pointer size ≡ Ok value →
    value_of_text kind (text_at objects pointer size) ≡ Ok value
item-text IntegerItem objects pointer size value has is =
    subst (λ (n : ℕ). value_of_text IntegerItem (text_at objects pointer n) ≡ Ok value) (has-four size has)
    (integer-bytes objects pointer value (number_through objects pointer) refl is)
item-text LogicalItem objects pointer size value has is =
    subst (λ (n : ℕ). value_of_text LogicalItem (text_at objects pointer n) ≡ Ok value) (has-four size has)
    (logical-bytes objects pointer value (number_through objects pointer) refl is)
item-text TextItem objects pointer size value has is = is

-- an item that is there has bytes
value-by : {T : Type 0} (shown : T → List ℕ) (kind : ItemKind) (objects : List Object) (pointer : CValue) (size : ℕ) (value : ListedValue) (result : Result T CFault) → value_of_text kind (text_at objects pointer size) ≡ Ok value →
    answered shown result ≡ text_at objects pointer size → answered (λ bytes. value_in kind (shown bytes)) result ≡ Ok value
value-by shown kind objects pointer size value (Ok bytes) is read = ap (value_of_text kind) read ∙ is
value-by shown kind objects pointer size value (Err fault) is read =
    let wrong : failing fault ≡ (let v : Or ListedValue = Ok value in v) = ap (value_of_text kind) read ∙ is in absurd (cc)

pub item-value : {T : Type 0} (shown : T → List ℕ) (kind : ItemKind) (objects : List Object) (pointer : CValue) (size : ℕ) (value : ListedValue) (result : Result T CFault) → has_size kind size ≡ true →
    Ok value ≡ item_at kind objects pointer size → answered shown result ≡ text_at objects pointer size →
    answered (λ bytes. value_in kind (shown bytes)) result ≡ item_at kind objects pointer size
item-value shown kind objects pointer size value result has there read =
    value-by shown kind objects pointer size value result (item-text kind objects pointer size value has (sym there)) read ∙ there

size-by : {T : Type 0} (shown : T → List ℕ) (objects : List Object) (pointer : CValue) (size : ℕ) (result : Result T CFault) → answered shown result ≡ text_at objects pointer size →
    IfOk result (λ bytes. length (shown bytes) ≡ size)
size-by shown objects pointer size (Ok bytes) read = (text-there objects pointer size (shown bytes) (sym read)).long
size-by shown objects pointer size (Err fault) read = tt

pub item-size : {T : Type 0} (shown : T → List ℕ) (objects : List Object) (pointer : CValue) (size : ℕ) (result : Result T CFault) → answered shown result ≡ text_at objects pointer size →
    IfOk result (λ bytes. length (shown bytes) ≡ size)
item-size shown objects pointer size result read = size-by shown objects pointer size result read

-- ## All items

there-by : (kind : ItemKind) (objects : List Object) (pointer : CValue) (size : ℕ) (value : ListedValue) (found : Or (List ℕ)) → text_at objects pointer size ≡ found → value_of_text kind found ≡ Ok value →
    (text : List ℕ) × TextThere objects pointer size text
there-by kind objects pointer size value (Ok text) at is = (text, text-there objects pointer size text at)
there-by kind objects pointer size value (Err reason) at is = absurd (cc)

item-stands : (kind : ItemKind) (objects : List Object) (pointer : CValue) (size : ℕ) (value : ListedValue) → has_size kind size ≡ true → Ok value ≡ item_at kind objects pointer size →
    (text : List ℕ) × TextThere objects pointer size text
item-stands kind objects pointer size value has there =
    there-by kind objects pointer size value (text_at objects pointer size) refl (item-text kind objects pointer size value has (sym there))

-- the offset of a pointer
abbrev pub offset_of : CValue → ℕ
offset_of (Pointer object offset) = offset
offset_of other = 0

has-room : (objects : List Object) (pointer : CValue) (size : ℕ) (text : List ℕ) (used room : ℕ) → HasRoom room objects → TextThere objects pointer size text → used ≤ offset_of pointer → used ≤ room →
    used + size ≤ room
has-room objects pointer size text used room large there front within = by (cases_lt 0 size)
  where
    by : (0 < size) ⊎ (size ≤ 0) → used + size ≤ room
    by (inl some) =
        let found : (object : ℕ) × (offset : ℕ) × (held : Object) × (pointer ≡ Pointer object offset) × (slice_get objects object ≡ Some held) × (offset + size ≤ extent held) = there.stands some in
        let before : used ≤ found.1 = subst (λ (one : CValue). used ≤ offset_of one) found.3 front in
        let inside : found.1 + size ≤ extent found.2 = found.5 in
        let small : extent found.2 ≤ room = large found.0 found.2 found.4 in omega arith
    by (inr none) = omega arith

moves : (objects : List Object) (pointer : CValue) (size : ℕ) (text : List ℕ) (used : ℕ) → TextThere objects pointer size text → used ≤ offset_of pointer → used + size ≤ offset_of (shifted size pointer)
moves objects (Pointer object offset) size text used there front = omega arith
moves objects Null size text used there front = by (cases_lt 0 size)
  where
    by : (0 < size) ⊎ (size ≤ 0) → used + size ≤ 0
    by (inl some) = let wrong : Null ≡ Pointer (there.stands some).0 (there.stands some).1 = (there.stands some).3 in absurd (cc)
    by (inr none) = omega arith
moves objects (Number number) size text used there front = by (cases_lt 0 size)
  where
    by : (0 < size) ⊎ (size ≤ 0) → used + size ≤ 0
    by (inl some) = let wrong : Number number ≡ Pointer (there.stands some).0 (there.stands some).1 = (there.stands some).3 in absurd (cc)
    by (inr none) = omega arith
moves objects (Function number) size text used there front = by (cases_lt 0 size)
  where
    by : (0 < size) ⊎ (size ≤ 0) → used + size ≤ 0
    by (inl some) = let wrong : Function number ≡ Pointer (there.stands some).0 (there.stands some).1 = (there.stands some).3 in absurd (cc)
    by (inr none) = omega arith

-- one item more
values-more : (kind : ItemKind) (size done : ℕ) (front bytes : List ℕ) → length front ≡ done * size → length bytes ≡ size →
    values_in kind size (suc done) (front ++ bytes) ≡ values_in kind size done front ++ value_in kind bytes ∷ []
values-more kind size zero [] bytes long all = ap (λ (text : List ℕ). value_in kind text ∷ []) (take_all size bytes (omega arith))
values-more kind size zero (first ∷ rest) bytes long all = absurd (omega arith)
values-more kind size (suc done) front bytes long all =
    let sum : suc done * size ≡ size + done * size = omega arith in
    let within : size ≤ length front = omega arith in
    let left : length (drop size front) ≡ done * size = omega (arith, length-drop size front) in
    ap (λ (text : List ℕ). value_in kind text ∷ values_in kind size (suc done) (drop size (front ++ bytes))) (take-append-le size front bytes within)
    ∙ ap (λ (text : List ℕ). value_in kind (take size front) ∷ values_in kind size (suc done) text) (drop-append-le size front bytes within)
    ∙ ap (λ (values : List ListedValue). value_in kind (take size front) ∷ values) (values-more kind size done (drop size front) bytes left all)

-- some items stand in a buffer, those from a pointer on are left
pub record Gathering (kind : ItemKind) (objects : List Object) (size : ℕ) (first : CValue) (count done : ℕ) (pointer : CValue) (used : ℕ) (buffer : List ℕ) : Type 0 where
  pub read : Reading kind objects size first count pointer (count - done) (values_in kind size done (take used buffer))
  pub used_is : used ≡ done * size
  pub within : used ≤ length buffer
  pub front : used ≤ offset_of pointer

pub gathering-starts : (kind : ItemKind) (objects : List Object) (size : ℕ) (first : CValue) (count : ℕ) (buffer : List ℕ) → Gathering kind objects size first count 0 first 0 buffer
gathering-starts kind objects size first count buffer = record {
  read = reading-starts kind objects size first count (count - 0) (omega arith);
  used_is = omega arith;
  within = omega arith;
  front = omega arith;
}

pub gathering-room : (kind : ItemKind) (objects : List Object) (size : ℕ) (first : CValue) (count done : ℕ) (pointer : CValue) (used : ℕ) (buffer bytes : List ℕ) → HasRoom (length buffer) objects → has_size kind size ≡ true →
    Ok (value_in kind bytes) ≡ item_at kind objects pointer size → Gathering kind objects size first count done pointer used buffer → used + size ≤ length buffer
gathering-room kind objects size first count done pointer used buffer bytes large has there before =
    let item : (text : List ℕ) × TextThere objects pointer size text = item-stands kind objects pointer size (value_in kind bytes) has there in
    has-room objects pointer size item.0 used (length buffer) large item.1 before.front before.within

pub gathering-goes_on : (kind : ItemKind) (objects : List Object) (size : ℕ) (first : CValue) (count done : ℕ) (pointer next : CValue) (used : ℕ) (buffer buffer' bytes : List ℕ) → HasRoom (length buffer) objects →
    has_size kind size ≡ true → done < count → length buffer' ≡ length buffer → length bytes ≡ size → next ≡ shifted size pointer → Ok (value_in kind bytes) ≡ item_at kind objects pointer size →
    take (used + length bytes) buffer' ≡ take used buffer ++ bytes → Gathering kind objects size first count done pointer used buffer →
    Gathering kind objects size first count (done + 1) next (used + size) buffer'
gathering-goes_on kind objects size first count done pointer next used buffer buffer' bytes large has more same all moved there put before =
    let item : (text : List ℕ) × TextThere objects pointer size text = item-stands kind objects pointer size (value_in kind bytes) has there in
    let used_is : used ≡ done * size = before.used_is in
    let one : done + 1 ≡ suc done = add-one done in
    let sum : suc done * size ≡ done * size + size = omega arith in
    let held : take (used + size) buffer' ≡ take used buffer ++ bytes = ap (λ (n : ℕ). take (used + n) buffer') (sym all) ∙ put in
    let long : length (take used buffer) ≡ done * size = length-take-le used buffer before.within ∙ used_is in
    let values : values_in kind size (done + 1) (take (used + size) buffer') ≡ values_in kind size done (take used buffer) ++ value_in kind bytes ∷ [] =
    ap (λ (n : ℕ). values_in kind size n (take (used + size) buffer')) one ∙ ap (values_in kind size (suc done)) held ∙ values-more kind size done (take used buffer) bytes long all in
    let room : used + size ≤ length buffer = has-room objects pointer size item.0 used (length buffer) large item.1 before.front before.within in
    let goes : Reading kind objects size first count next (count - (done + 1)) (values_in kind size done (take used buffer) ++ value_in kind bytes ∷ []) =
    reading-goes_on kind objects size first count pointer next (count - done) (count - (done + 1)) (values_in kind size done (take used buffer)) (value_in kind bytes) (omega arith) moved there before.read in
    record {
      read = subst (λ (read : List ListedValue). Reading kind objects size first count next (count - (done + 1)) read) (sym values) goes;
      used_is = ap (λ (n : ℕ). n + size) used_is ∙ sym sum ∙ ap (λ (n : ℕ). n * size) (sym one);
      within = omega (arith, same, room);
      front = subst (λ (at : CValue). used + size ≤ offset_of at) (sym moved) (moves objects pointer size item.0 used item.1 before.front);
    }

pub gathering-faulty : (kind : ItemKind) (objects : List Object) (size : ℕ) (first : CValue) (count done : ℕ) (pointer : CValue) (used : ℕ) (buffer : List ℕ) (fault : CFault) → done < count →
    failing fault ≡ item_at kind objects pointer size → Gathering kind objects size first count done pointer used buffer → items_at kind objects size count first ≡ failing fault
gathering-faulty kind objects size first count done pointer used buffer fault more is before =
    reading-faulty kind objects size first count pointer (count - done) (count - (done + 1)) (values_in kind size done (take used buffer)) fault (omega arith) is before.read

pub gathering-done : (list : ItemList) (objects : List Object) (first : CValue) (done : ℕ) (pointer : CValue) (used : ℕ) (buffer : List ℕ) → done ≡ list.count →
    Gathering (kind_shown list.kind) objects list.size first list.count done pointer used buffer →
    AreGathered list (items_at (kind_shown list.kind) objects list.size list.count first) buffer (Ok used)
gathering-done list objects first done pointer used buffer all before = (
  reading-done (kind_shown list.kind) objects list.size first list.count pointer (list.count - done) (values_in (kind_shown list.kind) list.size done (take used buffer)) (omega arith) before.read
      ∙ ap (λ (n : ℕ). Ok (values_in (kind_shown list.kind) list.size n (take used buffer))) all,
  (before.used_is ∙ ap (λ (n : ℕ). n * list.size) all, before.within),
)
