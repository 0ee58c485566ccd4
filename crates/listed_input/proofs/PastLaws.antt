-- Pointers at the end of an object or behind it: nothing is stored through one, and each has the same fault (C89, 3.3.6).
use Rattle.std.proofs.Common.{◌≡◌, ℕ, zero, suc, ◌+◌, ◌≤◌, ℤ, pos, Bool, true, false, if◌then◌else◌, List, [], ◌∷◌, length, take, Option, Some, None, refl, ap, sym, ◌∙◌, subst, arith, inl, inr}
use Rattle.std.specs.Prelude.{nat_le, nat_eq, ◌%◌, ◌-◌, option_map, slice_get, slice_set, Ok, Err}
use Rattle.std.proofs.lemmas.Bool.Decides.{nat_tests}
use Rattle.c_tree.specs.declared.outcome.CValue.{CValue}
use Rattle.c_tree.specs.declared.outcome.CValue.TheVariants.{Number, Pointer, Null, Function}
use Rattle.c_tree.specs.declared.outcome.CFault.TheVariants.{Outside, Kind}
use Rattle.c_tree.specs.Faults.{Or, after, failing}
use Rattle.c_tree.specs.Access.{ToNumber}
use Rattle.c_tree.specs.Objects.{Object, Bytes, Values, Held, extent, overlaid, with_bytes, with_number, with_value, put_object, holds, bytes_of_number, stored}
use Rattle.c_tree.specs.LibraryArguments.{with_text, text_stored, shifted, fitted}
use Rattle.c_tree.specs.World.{Transfer, World, Reply}
use Rattle.c_tree.specs.Transfers.{Passage, GoesOn, Answers, Upcoming, upcoming, ended_by}
use Rattle.c_tree.specs.TransferOutput.{ItemKind}
use Rattle.c_tree.specs.TransferInput.{value_taken, kind_of, listed_taken, listed_stop, unless_slashed, listed_item, records_needed, world_behind, behind, given, line_behind}
use Rattle.c_tree.specs.TransferCalls.{each_item, then_later}
use Rattle.edit_rules.specs.edit_meaning.ListInput as input
use Rattle.edit_rules.specs.edit_meaning.ListItems as items
use Rattle.listed_input.specs.Texts.{IsPast, ArePast, IsPlaceBehind}

-- ## Stores

no-bytes : (offset : ℕ) (new : List ℕ) (bytes : List (Option ℕ)) → 1 ≤ length new → length bytes ≤ offset → with_bytes offset new bytes ≡ failing Outside
no-bytes offset new bytes some past =
    ap (λ (fits : Bool). if fits then Ok (Bytes (overlaid offset new bytes)) else failing Outside)
    (let is : nat_le (offset + length new) (length bytes) ≡ false = grind (arith, nat_tests) in is)

no-text : (found : Option Object) (offset offset' first : ℕ) (rest : List ℕ) → IsPast found offset → IsPast found offset' →
    with_text offset (first ∷ rest) found ≡ with_text offset' (first ∷ rest) found
no-text None offset offset' first rest past past' = refl
no-text (Some (Bytes bytes)) offset offset' first rest past past' =
    let some : 1 ≤ length (first ∷ rest) = omega arith in
    no-bytes offset (first ∷ rest) bytes some past ∙ sym (no-bytes offset' (first ∷ rest) bytes some past')
no-text (Some (Values held)) offset offset' first rest past past' = refl

number-wide : (number : ℤ) → 1 ≤ length (bytes_of_number number)
number-wide number = let four : length (bytes_of_number number) ≡ 4 = refl in omega (arith, four)

no-number : (offset : ℕ) (number : ℤ) (bytes : List (Option ℕ)) → length bytes ≤ offset → with_number offset number bytes ≡ failing Outside
no-number offset number bytes past = by (nat_eq (offset % 4) 0)
  where
    by : (even : Bool) → (if even then with_bytes offset (bytes_of_number number) bytes else failing Outside) ≡ failing Outside
    by true = no-bytes offset (bytes_of_number number) bytes (number-wide number) past
    by false = refl

no-value : (offset : ℕ) (value : CValue) (held : Held) → length held.values ≤ offset → with_value offset value held ≡ failing Outside
no-value offset value held past =
    ap (λ (fits : Bool). if fits then Ok (Values (record held { values = slice_set held.values offset (Some value) })) else failing Outside)
    (let is : nat_le (offset + 1) (length held.values) ≡ false = grind (arith, nat_tests) in is)

no-object : (found : Option Object) (offset offset' : ℕ) (number : ℤ) → IsPast found offset → IsPast found offset' →
    put_object ToNumber offset (Number number) found ≡ put_object ToNumber offset' (Number number) found
no-object None offset offset' number past past' = refl
no-object (Some (Bytes bytes)) offset offset' number past past' = no-number offset number bytes past ∙ sym (no-number offset' number bytes past')
no-object (Some (Values held)) offset offset' number past past' =
    ap (λ (made : Or Object). if holds held.type ToNumber then made else failing Kind)
    (no-value offset (Number number) held past ∙ sym (no-value offset' (Number number) held past'))

-- a number is stored
number-past : (objects : List Object) (object offset offset' : ℕ) (number : ℤ) → IsPast (slice_get objects object) offset → IsPast (slice_get objects object) offset' →
    stored objects (record { at = Pointer object offset; access = ToNumber }) (Number number)
    ≡ stored objects (record { at = Pointer object offset'; access = ToNumber }) (Number number)
unfolding stored
number-past objects object offset offset' number past past' =
    ap (λ (made : Or Object). after made λ changed. Ok (slice_set objects object changed)) (no-object (slice_get objects object) offset offset' number past past')

-- a text is stored
text-past : (objects : List Object) (object offset offset' : ℕ) (text : List ℕ) → IsPast (slice_get objects object) offset → IsPast (slice_get objects object) offset' →
    text_stored objects (Pointer object offset) text ≡ text_stored objects (Pointer object offset') text
text-past objects object offset offset' [] past past' = refl
text-past objects object offset offset' (first ∷ rest) past past' =
    ap (λ (made : Or Object). after made λ changed. Ok (slice_set objects object changed)) (no-text (slice_get objects object) offset offset' first rest past past')

texts-past : (objects : List Object) (p q : CValue) (text : List ℕ) → ArePast objects p q → text_stored objects p text ≡ text_stored objects q text
texts-past objects (Pointer object offset) (Pointer object' offset') text past =
    text-past objects object offset offset' text past.1 past.2 ∙ ap (λ (n : ℕ). text_stored objects (Pointer n offset') text) past.0
texts-past objects (Pointer object offset) (Number number) text past = absurd past
texts-past objects (Pointer object offset) Null text past = absurd past
texts-past objects (Pointer object offset) (Function number) text past = absurd past
texts-past objects (Number number) q text past = absurd past
texts-past objects Null q text past = absurd past
texts-past objects (Function number) q text past = absurd past

numbers-past : (objects : List Object) (p q : CValue) (number : ℤ) → ArePast objects p q →
    stored objects (record { at = p; access = ToNumber }) (Number number) ≡ stored objects (record { at = q; access = ToNumber }) (Number number)
numbers-past objects (Pointer object offset) (Pointer object' offset') number past =
    number-past objects object offset offset' number past.1 past.2
    ∙ ap (λ (n : ℕ). stored objects (record { at = Pointer n offset'; access = ToNumber }) (Number number)) past.0
numbers-past objects (Pointer object offset) (Number other) number past = absurd past
numbers-past objects (Pointer object offset) Null number past = absurd past
numbers-past objects (Pointer object offset) (Function other) number past = absurd past
numbers-past objects (Number other) q number past = absurd past
numbers-past objects Null q number past = absurd past
numbers-past objects (Function other) q number past = absurd past

-- ## Places

-- a text is stored at the place as behind the pointer
pub text-there : (objects : List Object) (distance : ℕ) (pointer place : CValue) (text : List ℕ) → IsPlaceBehind objects distance pointer place →
    text_stored objects (shifted distance pointer) text ≡ text_stored objects place text
text-there objects distance pointer place text (inl same) = ap (λ (at : CValue). text_stored objects at text) same
text-there objects distance pointer place text (inr past) = texts-past objects (shifted distance pointer) place text past

-- the end of an object
pub past-end : (found : Option Object) (end : ℕ) → Some end ≡ option_map extent found → (offset : ℕ) → end ≤ offset → IsPast found offset
past-end None end is offset past = tt
past-end (Some object) end is offset past = let same : end ≡ extent object = cc in omega (arith, same, past)

pub past-none : (found : Option Object) → None ≡ option_map extent found → (offset : ℕ) → IsPast found offset
past-none None is offset = tt
past-none (Some object) is offset = absurd (cc)

further : (found : Option Object) (offset more : ℕ) → IsPast found offset → IsPast found (offset + more)
further None offset more past = tt
further (Some object) offset more past = omega (arith, past)

past-shifted : (objects : List Object) (size : ℕ) (p q : CValue) → ArePast objects p q → ArePast objects (shifted size p) (shifted size q)
past-shifted objects size (Pointer object offset) (Pointer object' offset') past = (
  past.0,
  further (slice_get objects object) offset size past.1,
  further (slice_get objects object) offset' size past.2,
)
past-shifted objects size (Pointer object offset) (Number number) past = past
past-shifted objects size (Pointer object offset) Null past = past
past-shifted objects size (Pointer object offset) (Function number) past = past
past-shifted objects size (Number number) q past = past
past-shifted objects size Null q past = past
past-shifted objects size (Function number) q past = past

-- ## Items

value-past : (objects : List Object) (p q : CValue) (size : ℕ) (value : items.Value) → ArePast objects p q → value_taken objects p size value ≡ value_taken objects q size value
value-past objects p q size (items.IntValue number) past = numbers-past objects p q number past
value-past objects p q size (items.LogicalValue truth) past = numbers-past objects p q (if truth then pos 1 else pos 0) past
value-past objects p q size (items.TextValue text) past = texts-past objects p q (fitted size text) past
value-past objects p q size items.Kept past = refl

stop-past : (p q : CValue) (size : ℕ) (transfer : Transfer) (world : World) (next : Upcoming) (needed : ℕ) (outcome : items.Outcome) → ArePast world.objects p q →
    listed_stop p size transfer world next needed outcome ≡ listed_stop q size transfer world next needed outcome
stop-past p q size transfer world next needed items.Filled past = refl
stop-past p q size transfer world next needed items.Slashed past = refl
stop-past p q size transfer world next needed (items.Failed number text) past =
    ap (λ (made : Or (List Object)). after made λ objects. Ok (Answers (ended_by (pos number) transfer (world_behind needed objects transfer world))))
    (texts-past world.objects p q (take size text) past)
stop-past p q size transfer world next needed (items.EndOfRecords text) past =
    ap (λ (made : Or (List Object)). after next.then_comes λ number. after made λ objects.
    Ok (Answers (ended_by number transfer (world_behind (length next.lines + 1) objects transfer world)))) (texts-past world.objects p q (take size text) past)

taken-past : (p q : CValue) (kind : input.Kind) (size : ℕ) (transfer : Transfer) (world : World) (next : Upcoming) (item : items.Item) → ArePast world.objects p q →
    listed_taken kind p size transfer world next item ≡ listed_taken kind q size transfer world next item
taken-past p q kind size transfer world next (items.Takes value place later) past =
    ap (λ (made : Or (List Object)). after made λ objects.
    Ok (GoesOn (record (given value (behind (length next.lines - length later) transfer)) { place = place; line = line_behind (length next.lines - length later) next.lines transfer.line })
    (world_behind (length next.lines - length later) objects transfer world)))
    (value-past world.objects p q size value past)
taken-past p q kind size transfer world next (items.Stops outcome) past =
    stop-past p q size transfer world next (records_needed (length next.lines) 0 transfer.place next.lines kind) outcome past

unless-past : (slashed : Bool) (p q : CValue) (kind : input.Kind) (size : ℕ) (transfer : Transfer) (world : World) (next : Upcoming) → ArePast world.objects p q →
    unless_slashed slashed kind size p transfer world next ≡ unless_slashed slashed kind size q transfer world next
unless-past true p q kind size transfer world next past = refl
unless-past false p q kind size transfer world next past = taken-past p q kind size transfer world next (items.item_over transfer.place next.lines kind) past

item-past : (p q : CValue) (kind : ItemKind) (size : ℕ) (transfer : Transfer) (world : World) → ArePast world.objects p q →
    listed_item kind size p transfer world ≡ listed_item kind size q transfer world
item-past p q kind size transfer world past = unless-past transfer.slashed p q (kind_of kind) size transfer world (upcoming world transfer.medium) past

-- ## The objects stay

-- no object is changed
abbrev Unchanged : List Object → Or (List Object) → Type 0
Unchanged objects (Ok objects') = objects' ≡ objects
Unchanged objects (Err why) = Unit {0}

abbrev UnchangedBehind : List Object → Or Passage → Type 0
UnchangedBehind objects (Ok (GoesOn transfer world)) = world.objects ≡ objects
UnchangedBehind objects (Ok (Answers reply)) = Unit {0}
UnchangedBehind objects (Err why) = Unit {0}

none-stored : (objects : List Object) (object : ℕ) (made : Or Object) → made ≡ failing Outside → Unchanged objects (after made λ changed. Ok (slice_set objects object changed))
none-stored objects object made is = subst (λ (one : Or Object). Unchanged objects (after one λ changed. Ok (slice_set objects object changed))) (sym is) tt

text-kept : (objects : List Object) (object offset first : ℕ) (rest : List ℕ) (found : Option Object) → IsPast found offset →
    Unchanged objects (after (with_text offset (first ∷ rest) found) λ changed. Ok (slice_set objects object changed))
text-kept objects object offset first rest None past = tt
text-kept objects object offset first rest (Some (Bytes bytes)) past =
    none-stored objects object _ (no-bytes offset (first ∷ rest) bytes (omega arith) past)
text-kept objects object offset first rest (Some (Values held)) past = tt

texts-kept : (objects : List Object) (p q : CValue) (text : List ℕ) → ArePast objects p q → Unchanged objects (text_stored objects p text)
texts-kept objects p q [] past = refl
texts-kept objects (Pointer object offset) (Pointer object' offset') (first ∷ rest) past = text-kept objects object offset first rest (slice_get objects object) past.1
texts-kept objects (Pointer object offset) (Number number) (first ∷ rest) past = absurd past
texts-kept objects (Pointer object offset) Null (first ∷ rest) past = absurd past
texts-kept objects (Pointer object offset) (Function number) (first ∷ rest) past = absurd past
texts-kept objects (Number number) q (first ∷ rest) past = tt
texts-kept objects Null q (first ∷ rest) past = tt
texts-kept objects (Function number) q (first ∷ rest) past = tt

number-kept : (objects : List Object) (object offset : ℕ) (number : ℤ) (found : Option Object) → IsPast found offset →
    Unchanged objects (after (put_object ToNumber offset (Number number) found) λ changed. Ok (slice_set objects object changed))
number-kept objects object offset number None past = tt
number-kept objects object offset number (Some (Bytes bytes)) past = none-stored objects object _ (no-number offset number bytes past)
number-kept objects object offset number (Some (Values held)) past =
    subst (λ (one : Or Object). Unchanged objects (after (if holds held.type ToNumber then one else failing Kind) λ changed. Ok (slice_set objects object changed)))
    (sym (no-value offset (Number number) held past)) (by (holds held.type ToNumber))
  where
    by : (own : Bool) → Unchanged objects (after (if own then failing Outside else failing Kind) λ changed. Ok (slice_set objects object changed))
    by true = tt
    by false = tt

numbers-kept : (objects : List Object) (p q : CValue) (number : ℤ) → ArePast objects p q → Unchanged objects (stored objects (record { at = p; access = ToNumber }) (Number number))
unfolding stored
numbers-kept objects (Pointer object offset) (Pointer object' offset') number past = number-kept objects object offset number (slice_get objects object) past.1
numbers-kept objects (Pointer object offset) (Number other) number past = absurd past
numbers-kept objects (Pointer object offset) Null number past = absurd past
numbers-kept objects (Pointer object offset) (Function other) number past = absurd past
numbers-kept objects (Number other) q number past = tt
numbers-kept objects Null q number past = tt
numbers-kept objects (Function other) q number past = tt

value-kept : (objects : List Object) (p q : CValue) (size : ℕ) (value : items.Value) → ArePast objects p q → Unchanged objects (value_taken objects p size value)
value-kept objects p q size (items.IntValue number) past = numbers-kept objects p q number past
value-kept objects p q size (items.LogicalValue truth) past = numbers-kept objects p q (if truth then pos 1 else pos 0) past
value-kept objects p q size (items.TextValue text) past = texts-kept objects p q (fitted size text) past
value-kept objects p q size items.Kept past = refl

stop-kept : (p : CValue) (size : ℕ) (transfer : Transfer) (world : World) (next : Upcoming) (needed : ℕ) (outcome : items.Outcome) →
    UnchangedBehind world.objects (listed_stop p size transfer world next needed outcome)
stop-kept p size transfer world next needed items.Filled = refl
stop-kept p size transfer world next needed items.Slashed = refl
stop-kept p size transfer world next needed (items.Failed number text) = by (text_stored world.objects p (take size text))
  where
    by : (made : Or (List Object)) →
        UnchangedBehind world.objects (after made λ objects. Ok (Answers (ended_by (pos number) transfer (world_behind needed objects transfer world))))
    by (Ok objects) = tt
    by (Err why) = tt
stop-kept p size transfer world next needed (items.EndOfRecords text) = by next.then_comes (text_stored world.objects p (take size text))
  where
    by : (comes : Or ℤ) (made : Or (List Object)) → UnchangedBehind world.objects (after comes λ number. after made λ objects.
        Ok (Answers (ended_by number transfer (world_behind (length next.lines + 1) objects transfer world))))
    by (Ok number) (Ok objects) = tt
    by (Ok number) (Err why) = tt
    by (Err why) made = tt

taken-kept : (p q : CValue) (kind : input.Kind) (size : ℕ) (transfer : Transfer) (world : World) (next : Upcoming) (item : items.Item) → ArePast world.objects p q →
    UnchangedBehind world.objects (listed_taken kind p size transfer world next item)
taken-kept p q kind size transfer world next (items.Takes value place later) past =
    by (value_taken world.objects p size value) (value-kept world.objects p q size value past)
  where
    by : (made : Or (List Object)) → Unchanged world.objects made → UnchangedBehind world.objects (after made λ objects.
        Ok (GoesOn (record (given value (behind (length next.lines - length later) transfer)) { place = place; line = line_behind (length next.lines - length later) next.lines transfer.line })
        (world_behind (length next.lines - length later) objects transfer world)))
    by (Ok objects) same = same
    by (Err why) same = tt
taken-kept p q kind size transfer world next (items.Stops outcome) past =
    stop-kept p size transfer world next (records_needed (length next.lines) 0 transfer.place next.lines kind) outcome

unless-kept : (slashed : Bool) (p q : CValue) (kind : input.Kind) (size : ℕ) (transfer : Transfer) (world : World) (next : Upcoming) → ArePast world.objects p q →
    UnchangedBehind world.objects (unless_slashed slashed kind size p transfer world next)
unless-kept true p q kind size transfer world next past = refl
unless-kept false p q kind size transfer world next past = taken-kept p q kind size transfer world next (items.item_over transfer.place next.lines kind) past

item-kept : (p q : CValue) (kind : ItemKind) (size : ℕ) (transfer : Transfer) (world : World) → ArePast world.objects p q → UnchangedBehind world.objects (listed_item kind size p transfer world)
item-kept p q kind size transfer world past = unless-kept transfer.slashed p q (kind_of kind) size transfer world (upcoming world transfer.medium) past

-- ## Items one after the other

abbrev rest_from : ItemKind → ℕ → ℕ → CValue → Or Passage → Or Reply
rest_from kind size count p made = after made λ passage. then_later passage λ changed after_it. each_item size (listed_item kind size) count (shifted size p) changed after_it

rest-past : (kind : ItemKind) (size count : ℕ) (p q : CValue) (objects : List Object) → ArePast objects p q → (made : Or Passage) → UnchangedBehind objects made →
    ((one other : CValue) (transfer : Transfer) (world : World) → ArePast world.objects one other →
    each_item size (listed_item kind size) count one transfer world ≡ each_item size (listed_item kind size) count other transfer world) →
    rest_from kind size count p made ≡ rest_from kind size count q made
rest-past kind size count p q objects past (Ok (GoesOn changed after_it)) same later =
    later (shifted size p) (shifted size q) changed after_it
    (subst (λ (all : List Object). ArePast all (shifted size p) (shifted size q)) (sym same) (past-shifted objects size p q past))
rest-past kind size count p q objects past (Ok (Answers reply)) same later = refl
rest-past kind size count p q objects past (Err why) same later = refl

items-past : (kind : ItemKind) (size count : ℕ) (p q : CValue) (transfer : Transfer) (world : World) → ArePast world.objects p q →
    each_item size (listed_item kind size) count p transfer world ≡ each_item size (listed_item kind size) count q transfer world
items-past kind size zero p q transfer world past = refl
items-past kind size (suc count) p q transfer world past =
    rest-past kind size count p q world.objects past (listed_item kind size p transfer world) (item-kept p q kind size transfer world past)
    (λ one other later_on after_it again. items-past kind size count one other later_on after_it again)
    ∙ ap (rest_from kind size count q) (item-past p q kind size transfer world past)

-- the later items from the place on are those that stand behind the pointer
pub items-there : (kind : ItemKind) (size count distance : ℕ) (pointer place : CValue) (transfer : Transfer) (world : World) → IsPlaceBehind world.objects distance pointer place →
    each_item size (listed_item kind size) count (shifted distance pointer) transfer world ≡ each_item size (listed_item kind size) count place transfer world
items-there kind size count distance pointer place transfer world (inl same) = ap (λ (at : CValue). each_item size (listed_item kind size) count at transfer world) same
items-there kind size count distance pointer place transfer world (inr past) = items-past kind size count (shifted distance pointer) place transfer world past
