-- Input takes values of the types of its items, and comes to a transfer that goes on, to a number, or to an act that is named.
use Rattle.std.specs.Prelude.{◌≡◌, ℕ, zero, suc, ◌+◌, ◌-◌, ◌<◌, ◌/◌, nat_le, min, ℤ, pos, Bool, true, false, if◌then◌else◌, List, [], ◌∷◌, ◌++◌, length, map, take, drop, Option, Some, None, IsTrue}
use Rattle.std.proofs.Common.{refl, sym, ap, subst}
use Rattle.f_tree.specs.edit_meaning.Halts as halts
use Rattle.f_tree.specs.edit_meaning.Halts.{Halt}
use Rattle.f_tree.specs.edit_meaning.ListInput as list
use Rattle.f_tree.specs.edit_meaning.ListInput.{Kind, Place}
use Rattle.f_tree.specs.edit_meaning.ListItems as items
use Rattle.f_tree.specs.edit_meaning.TakenRecords as taken
use Rattle.f_tree.specs.edit_meaning.TakenRecords.{Want}
use Rattle.f_tree.specs.declared.names.Basic.{Basic}
use Rattle.f_tree.specs.declared.names.Basic.TheVariants.{Integer, Logical, Character}
use Rattle.f_tree.specs.Values.{Bytes, Spot, Datum, IsInt, IsLog, IsText, IsSpot, Act, WrongDescriptor, Checked, Gives, Fails}
use Rattle.f_tree.specs.Store.{Store, fetch, define, elements_from, elements}
use Rattle.f_tree.specs.Facts.{Input, Layout, Listed, Labelled, Computed, Unformatted, ProgramUnit}
use Rattle.f_tree.specs.World.{Medium, Transfer, World}
use Rattle.f_tree.specs.Statuses.{end_of_file, too_long}
use Rattle.f_tree.specs.Records.{Beyond, EndOfFile, LongRecord, Unfetched, Supply, supply, led_by, none_but, up_to_a_long_one, supply_in, records_behind, if_fetched, supply_from, text_from, text_at, record_count, record_place}
use Rattle.f_tree.specs.Transfers.{Taking, Serves, Numbered, Unsaid, item_taken, first_read, closing_taken, ran_out, taking_with, value_stored, front_stored, kind_of, records_needed, read_further, value_given, listed_stop, item_listed, listed_taken, want_of, values_stored, taken_so_far, lines_with, input_by, input_taken, format_taken}
use Rattle.f_tree.specs.WellTyped as typed
use Rattle.f_tree.specs.WellTyped.{ValueOf, PlaceOf, IsOf, is_named, Answers, IsValued}
use Rattle.f_tree.specs.Holding as holding
use Rattle.f_tree.specs.Holding.{IsTransfer, IsMedium, IsOutside}
use Rattle.fortran_totality.proofs.MeantLemmas.{Any, given_meant, fetch_meant}
use Rattle.fortran_totality.proofs.StoreLemmas.{define_held}
use Rattle.fortran_totality.proofs.TakenLemmas as values
use Rattle.fortran_totality.proofs.TakenLemmas.{IsWanted, AreWanted, wanted_behind, transferred_values, IsOfKind, EndsFor, IsItem, item_over_is, between_outside}

-- what the items of a step come to, with as many sequences as before
pub data TakesWell (u : ProgramUnit) (count : ℕ) : Taking → Type 0 where
  serves_well : (t : Transfer) (k : ℕ) (s : Store) → IsTransfer u count Input t → length s ≡ count → TakesWell u count (Serves t k s)
  numbered_well : (number : ℤ) (k : ℕ) (s : Store) → length s ≡ count → TakesWell u count (Numbered number k s)
  unsaid_well : (act : Act) → IsTrue (is_named act) → TakesWell u count (Unsaid act)

-- why there are no more records: the file ends, the next one is too long, or an act that is named
pub data IsSaid : Beyond → Type 0 where
  at_file_end : IsSaid EndOfFile
  at_long_record : IsSaid LongRecord
  at_an_act : (act : Act) → IsTrue (is_named act) → IsSaid (Unfetched act)

pub said_if : (b : Bool) (one other : Supply) → IsSaid one.beyond → IsSaid other.beyond → IsSaid (if b then one else other).beyond
said_if true one other said alike = said
said_if false one other said alike = alike

pub long_one_said : (line : Bytes) (later : Supply) → IsSaid later.beyond → IsSaid (up_to_a_long_one line later).beyond
unfolding up_to_a_long_one led_by none_but
long_one_said line later said = said_if (nat_le (length line) 1024) (led_by line later) (none_but LongRecord) said at_long_record

-- the records of a unit
pub unit_said : (lines : List Bytes) → IsSaid (supply_in lines).beyond
unfolding supply_in none_but
unit_said [] = at_file_end
unit_said (line ∷ lines) = long_one_said line (supply_in lines) (unit_said lines)

-- the records of an internal file
pub text_given : (n : ℕ) (d : Datum) → IsOf n (ValueOf Character) d → Answers Any (text_from (Gives d))
unfolding text_from Answers
text_given n d (typed.text cs) = tt

pub text_named : (n : ℕ) (r : Checked Datum) → Answers (IsOf n (ValueOf Character)) r → Answers Any (text_from r)
unfolding text_from Answers
text_named n (Gives d) of = text_given n d of
text_named n (Fails act) named = named

pub text_at_named : (s : Store) (p : Spot) → p.basic ≡ Character → p.sequence < length s → Answers Any (text_at s p)
unfolding text_at
text_at_named s p is within =
    text_named (length s) (fetch s (record p { width = p.extent })) (fetch_meant s (length s) (record p { width = p.extent }) Character typed.texts is within)

pub fetched_said : (r : Checked Bytes) (later : Supply) → Answers Any r → IsSaid later.beyond → IsSaid (if_fetched r later).beyond
unfolding if_fetched none_but Answers
fetched_said (Gives line) later any said = long_one_said line later said
fetched_said (Fails act) later named said = at_an_act act named

pub file_said : (more : ℕ) (s : Store) (p : Spot) (k : ℕ) → p.basic ≡ Character → p.sequence < length s → IsSaid (supply_from more s p k).beyond
unfolding supply_from none_but record_place
file_said zero s p k is within = at_file_end
file_said (suc more) s p k is within =
    fetched_said (text_at s (record_place p k)) (supply_from more s p (suc k)) (text_at_named s (record_place p k) is within) (file_said more s p (suc k) is within)

pub medium_said : (w : World) (t : Transfer) (medium : Medium) → IsMedium (length w.store) medium → IsSaid (supply w (record t { medium = medium })).beyond
unfolding supply
medium_said w t medium (holding.on_unit unit) = unit_said (records_behind (w.units.connected unit))
medium_said w t medium (holding.in_file p (typed.place _ _ is within)) = file_said (record_count p - t.written) w.store p t.written is within

pub supply_said : (u : ProgramUnit) (w : World) (t : Transfer) → IsTransfer u (length w.store) Input t → IsSaid (supply w t).beyond
supply_said u w t is = medium_said w t t.medium is.medium

pub ran_out_well : (u : ProgramUnit) (n : ℕ) (lines : List Bytes) (beyond : Beyond) (s : Store) → IsSaid beyond → length s ≡ n →
    TakesWell u n (ran_out (record { lines = lines; beyond = beyond }) s)
unfolding ran_out
ran_out_well u n lines beyond s at_file_end same = numbered_well end_of_file (suc (length lines)) s same
ran_out_well u n lines beyond s at_long_record same = numbered_well too_long (suc (length lines)) s same
ran_out_well u n lines beyond s (at_an_act act named) same = unsaid_well act named

-- a transfer goes on with another place, outside a text
pub transfer_kept : (u : ProgramUnit) (n : ℕ) (t : Transfer) (lines : List Bytes) (given : List items.Value) (place : Place) (slashed : Bool) (wants : List Want) →
    IsTransfer u n Input t → IsOutside place → IsTransfer u n Input (record t { lines = lines; taken = given; place = place; slashed = slashed; wants = wants })
transfer_kept u n t lines given place slashed wants is outside = record {
  direction_is = is.direction_is;
  medium = is.medium;
  status = is.status;
  on_error = is.on_error;
  on_end = is.on_end;
  outside = outside;
}

-- a store with so many sequences
abbrev pub HasMany : ℕ → Store → Type 0
HasMany n s = length s ≡ n

-- places of a type
pub data ArePlaces (n : ℕ) (basic : Basic) : List Spot → Type 0 where
  no_places : ArePlaces n basic []
  more_places : (p : Spot) (ps : List Spot) → IsOf n (PlaceOf basic) (IsSpot p) → ArePlaces n basic ps → ArePlaces n basic (p ∷ ps)

pub next_placed : (n : ℕ) (basic : Basic) (p : Spot) (first : ℕ) → IsOf n (PlaceOf basic) (IsSpot p) → IsOf n (PlaceOf basic) (IsSpot (record p { first = first }))
next_placed n basic p first (typed.place _ _ is within) = typed.place (record p { first = first }) basic is within

pub elements_placed : (n : ℕ) (basic : Basic) (count : ℕ) (p : Spot) → IsOf n (PlaceOf basic) (IsSpot p) → ArePlaces n basic (elements_from count p)
unfolding elements_from
elements_placed n basic zero p placed = no_places
elements_placed n basic (suc count) p placed =
    more_places p (elements_from count (record p { first = p.first + p.width })) placed
    (elements_placed n basic count (record p { first = p.first + p.width }) (next_placed n basic p (p.first + p.width) placed))

-- a place of a type gets a value of the type
pub defined : (n : ℕ) (s : Store) (p : Spot) (basic : Basic) (d : Datum) → HasMany n s → IsValued basic → IsOf n (PlaceOf basic) (IsSpot p) → IsOf n (ValueOf basic) d →
    Answers (HasMany n) (define s p d)
defined n s p basic d same valued placed of =
    subst (λ k. Answers (HasMany k) (define s p d)) same
    (define_held s n basic p d valued (subst (λ k. IsOf k (PlaceOf basic) (IsSpot p)) (sym same) placed) of)

pub kept : (n : ℕ) (s : Store) → HasMany n s → Answers (HasMany n) (Gives s)
unfolding Answers
kept n s same = same

pub value_held : (n : ℕ) (s : Store) (p : Spot) (basic : Basic) (value : items.Value) → HasMany n s → IsValued basic → IsOf n (PlaceOf basic) (IsSpot p) →
    IsOfKind (kind_of basic) value → Answers (HasMany n) (value_stored s p value)
unfolding value_stored kind_of
value_held n s p basic (items.IntValue z) same typed.integers placed is = defined n s p Integer (IsInt z) same typed.integers placed (typed.integer z)
value_held n s p basic (items.LogicalValue b) same typed.integers placed is = elim is [ ]
value_held n s p basic (items.TextValue cs) same typed.integers placed is = elim is [ ]
value_held n s p basic (items.IntValue z) same typed.logicals placed is = elim is [ ]
value_held n s p basic (items.LogicalValue b) same typed.logicals placed is = defined n s p Logical (IsLog b) same typed.logicals placed (typed.logical b)
value_held n s p basic (items.TextValue cs) same typed.logicals placed is = elim is [ ]
value_held n s p basic (items.IntValue z) same typed.texts placed is = elim is [ ]
value_held n s p basic (items.LogicalValue b) same typed.texts placed is = elim is [ ]
value_held n s p basic (items.TextValue cs) same typed.texts placed is = defined n s p Character (IsText cs) same typed.texts placed (typed.text cs)
value_held n s p basic items.Kept same valued placed is = kept n s same

-- characters at the front of a text
pub front_held : (n : ℕ) (s : Store) (p : Spot) (text : Bytes) → HasMany n s → IsOf n (PlaceOf Character) (IsSpot p) → Answers (HasMany n) (front_stored s p text)
unfolding front_stored
front_held n s p [] same placed = kept n s same
front_held n s p (c ∷ cs) same (typed.place _ _ is within) =
    let front : Spot = record p { width = min (length (c ∷ cs)) p.width } in
    defined n s front Character (IsText (c ∷ cs)) same typed.texts (typed.place front Character is within) (typed.text (c ∷ cs))

pub taking_well : (u : ProgramUnit) (n : ℕ) (r : Checked Store) (go : Store → Taking) → Answers (HasMany n) r → ((s : Store) → HasMany n s → TakesWell u n (go s)) →
    TakesWell u n (taking_with r go)
unfolding taking_with Answers
taking_well u n (Gives s) go same next = next s same
taking_well u n (Fails act) go named next = unsaid_well act named

-- a list-directed input that stops at an item
pub text_stopped : (u : ProgramUnit) (n : ℕ) (s : Store) (p : Spot) (basic : Basic) (text : Bytes) (go : Store → Taking) → HasMany n s → IsValued basic →
    IsOf n (PlaceOf basic) (IsSpot p) → list.TextItem ≡ kind_of basic → ((s : Store) → HasMany n s → TakesWell u n (go s)) → TakesWell u n (taking_with (front_stored s p text) go)
unfolding kind_of
text_stopped u n s p basic text go same typed.integers placed is next = absurd (cc)
text_stopped u n s p basic text go same typed.logicals placed is next = absurd (cc)
text_stopped u n s p basic text go same typed.texts placed is next = taking_well u n (front_stored s p text) go (front_held n s p text same placed) next

pub nothing_stopped : (u : ProgramUnit) (n : ℕ) (s : Store) (p : Spot) (go : Store → Taking) → HasMany n s → ((s : Store) → HasMany n s → TakesWell u n (go s)) →
    TakesWell u n (taking_with (front_stored s p []) go)
unfolding front_stored taking_with
nothing_stopped u n s p go same next = next s same

pub supply_out : (u : ProgramUnit) (n : ℕ) (all : Supply) → IsSaid all.beyond → (s : Store) → HasMany n s → TakesWell u n (ran_out all s)
supply_out u n all said s same = ran_out_well u n all.lines all.beyond s said same

pub slash_stopped : (u : ProgramUnit) (n : ℕ) (t : Transfer) (all : Supply) (s : Store) (count : ℕ) → IsTransfer u n Input t → HasMany n s →
    TakesWell u n (Serves (read_further count all (value_given items.Kept (record t { slashed = true }))) count s)
unfolding read_further value_given
slash_stopped u n t all s count is same =
    serves_well (record t { slashed = true; taken = t.taken ++ items.Kept ∷ []; lines = t.lines ++ take count all.lines }) count s
    (transfer_kept u n t (t.lines ++ take count all.lines) (t.taken ++ items.Kept ∷ []) t.place true t.wants is is.outside) same

pub listed_stopped : (u : ProgramUnit) (n : ℕ) (t : Transfer) (all : Supply) (s : Store) (p : Spot) (basic : Basic) (count : ℕ) (kind : Kind) (outcome : items.Outcome) →
    IsTransfer u n Input t → IsSaid all.beyond → HasMany n s → IsValued basic → IsOf n (PlaceOf basic) (IsSpot p) → kind ≡ kind_of basic → EndsFor kind outcome →
    TakesWell u n (listed_stop t all s p count outcome)
unfolding listed_stop
listed_stopped u n t all s p basic count kind outcome is said same valued placed of (values.filled_for _) = slash_stopped u n t all s count is same
listed_stopped u n t all s p basic count kind outcome is said same valued placed of (values.slashed_for _) = slash_stopped u n t all s count is same
listed_stopped u n t all s p basic count kind outcome is said same valued placed of (values.failed_for _ number) =
    nothing_stopped u n s p (Numbered (pos number) count) same (λ after held. numbered_well (pos number) count after held)
listed_stopped u n t all s p basic count kind outcome is said same valued placed of (values.ended_for _) =
    nothing_stopped u n s p (ran_out all) same (supply_out u n all said)
listed_stopped u n t all s p basic count kind outcome is said same valued placed of (values.text_failed number text) =
    text_stopped u n s p basic text (Numbered (pos number) count) same valued placed of (λ after held. numbered_well (pos number) count after held)
listed_stopped u n t all s p basic count kind outcome is said same valued placed of (values.text_ended text) =
    text_stopped u n s p basic text (ran_out all) same valued placed of (supply_out u n all said)

-- an item of list-directed input
pub item_well : (u : ProgramUnit) (n : ℕ) (t : Transfer) (all : Supply) (s : Store) (p : Spot) (basic : Basic) (item : items.Item) → IsTransfer u n Input t →
    IsSaid all.beyond → HasMany n s → IsValued basic → IsOf n (PlaceOf basic) (IsSpot p) → IsItem (kind_of basic) item →
    TakesWell u n (item_listed t all p s item)
unfolding item_listed read_further value_given
item_well u n t all s p basic item is said same valued placed (values.takes_one _ value next behind fits outside) =
    let count : ℕ = length all.lines - length behind in
    taking_well u n (value_stored s p value)
    (Serves (record t { place = next; taken = t.taken ++ value ∷ []; lines = t.lines ++ take count all.lines }) count)
    (value_held n s p basic value same valued placed fits)
    (λ after held. serves_well (record t { place = next; taken = t.taken ++ value ∷ []; lines = t.lines ++ take count all.lines }) count after
    (transfer_kept u n t (t.lines ++ take count all.lines) (t.taken ++ value ∷ []) next t.slashed t.wants is outside) held)
item_well u n t all s p basic item is said same valued placed (values.stops_there _ outcome ends) =
    listed_stopped u n t all s p basic (records_needed (length all.lines) 0 t.place all.lines (kind_of p.basic)) (kind_of basic) outcome is said same valued placed
    refl ends

pub kind_is : (n : ℕ) (p : Spot) (basic : Basic) → IsOf n (PlaceOf basic) (IsSpot p) → kind_of p.basic ≡ kind_of basic
kind_is n p basic (typed.place _ _ is within) = ap kind_of is

pub listed_taken_well : (u : ProgramUnit) (n : ℕ) (t : Transfer) (all : Supply) (basic : Basic) (slashed : Bool) → IsTransfer u n Input t → IsSaid all.beyond →
    IsValued basic → (p : Spot) → IsOf n (PlaceOf basic) (IsSpot p) → (s : Store) → HasMany n s → TakesWell u n (listed_taken slashed t all p s)
unfolding listed_taken value_given
listed_taken_well u n t all basic true is said valued p placed s same =
    serves_well (record t { taken = t.taken ++ items.Kept ∷ [] }) 0 s (transfer_kept u n t t.lines (t.taken ++ items.Kept ∷ []) t.place t.slashed t.wants is is.outside) same
listed_taken_well u n t all basic false is said valued p placed s same =
    item_well u n t all s p basic (items.item_over t.place all.lines (kind_of p.basic)) is said same valued placed
    (subst (λ kind. IsItem kind (items.item_over t.place all.lines (kind_of p.basic))) (kind_is n p basic placed)
    (item_over_is t.place all.lines (kind_of p.basic) is.outside))

-- what the items of a formatted input want, they store
pub wanted_kind : (p : Spot) (basic : Basic) (value : items.Value) → IsValued basic → IsWanted (want_of (record p { basic = basic })) value → IsOfKind (kind_of basic) value
unfolding want_of kind_of
wanted_kind p basic value typed.integers (values.an_integer z) = values.of_integer z
wanted_kind p basic value typed.logicals (values.a_logical b) = values.of_logical b
wanted_kind p basic value typed.texts (values.a_text size text) = values.of_text text

pub wanted_held : (n : ℕ) (s : Store) (p : Spot) (basic : Basic) (value : items.Value) → HasMany n s → IsValued basic → IsOf n (PlaceOf basic) (IsSpot p) →
    IsWanted (want_of p) value → Answers (HasMany n) (value_stored s p value)
wanted_held n s p basic value same valued (typed.place _ _ is within) wanted =
    value_held n s p basic value same valued (typed.place p basic is within)
    (subst (λ b. IsOfKind (kind_of b) value) is (wanted_kind p p.basic value (subst IsValued (sym is) valued) wanted))

pub values_held : (n : ℕ) (basic : Basic) → IsValued basic → (ps : List Spot) → ArePlaces n basic ps → (vs : List items.Value) → AreWanted (map want_of ps) vs →
    (s : Store) → HasMany n s → Answers (HasMany n) (values_stored s ps vs)
unfolding values_stored
values_held n basic valued [] are vs wanted s same = kept n s same
values_held n basic valued (p ∷ ps) are [] wanted s same = kept n s same
values_held n basic valued (p ∷ ps) (more_places _ _ placed are) (v ∷ vs) (values.one_wanted _ _ _ _ one others) s same =
    given_meant (HasMany n) (HasMany n) (value_stored s p v) (λ after. values_stored after ps vs) (wanted_held n s p basic v same valued placed one)
    (λ after held. values_held n basic valued ps are vs others after held)

pub input_by_well : (u : ProgramUnit) (n : ℕ) (t : Transfer) (all : Supply) (count : ℕ) (halted : Option Halt) (s : Store) → IsTransfer u n Input t → IsSaid all.beyond →
    HasMany n s → TakesWell u n (input_by t all count halted s)
unfolding input_by is_named read_further
input_by_well u n t all count None s is said same =
    serves_well (record t { lines = t.lines ++ take count all.lines }) count s
    (transfer_kept u n t (t.lines ++ take count all.lines) t.taken t.place t.slashed t.wants is is.outside) same
input_by_well u n t all count (Some (halts.Number number)) s is said same = numbered_well (pos number) count s same
input_by_well u n t all count (Some halts.EndOfRecords) s is said same = supply_out u n all said s same
input_by_well u n t all count (Some halts.OtherType) s is said same = unsaid_well WrongDescriptor refl

pub input_taken_well : (u : ProgramUnit) (n : ℕ) (t : Transfer) (all : Supply) (ps : List Spot) (s : Store) (input : taken.Input) → IsTransfer u n Input t → IsSaid all.beyond →
    Answers (HasMany n) (values_stored s ps (drop (length t.wants) input.values)) → TakesWell u n (input_taken t all ps s input)
unfolding input_taken
input_taken_well u n t all ps s input is said held =
    let after : Transfer = record t { wants = t.wants ++ map want_of ps; taken = input.values } in
    let count : ℕ = length all.lines - length input.later in
    taking_well u n (values_stored s ps (drop (length t.wants) input.values)) (input_by after all count input.halted) held
    (λ stored same. input_by_well u n after all count input.halted stored
    (transfer_kept u n t t.lines input.values t.place t.slashed (t.wants ++ map want_of ps) is is.outside) said same)

-- an item of formatted input
pub format_taken_well : (u : ProgramUnit) (n : ℕ) (t : Transfer) (all : Supply) (basic : Basic) → IsTransfer u n Input t → IsSaid all.beyond → IsValued basic →
    (p : Spot) → IsOf n (PlaceOf basic) (IsSpot p) → (s : Store) → HasMany n s → TakesWell u n (format_taken t all p s)
unfolding format_taken taken_so_far
format_taken_well u n t all basic is said valued p placed s same =
    let input : taken.Input = taken_so_far t.format (lines_with t all) (t.wants ++ want_of p ∷ []) t.zeros in
    input_taken_well u n t all (p ∷ []) s input is said
    (values_held n basic valued (p ∷ []) (more_places p [] placed no_places) (drop (length t.wants) input.values)
    (wanted_behind t.wants (want_of p ∷ []) input.values (transferred_values t.format (lines_with t all) (t.wants ++ want_of p ∷ []) t.zeros)) s same)

pub item_of_layout : (u : ProgramUnit) (n : ℕ) (t : Transfer) (all : Supply) (basic : Basic) (layout : Layout) → IsTransfer u n Input t → IsSaid all.beyond →
    IsValued basic → (p : Spot) → IsOf n (PlaceOf basic) (IsSpot p) → (s : Store) → HasMany n s → TakesWell u n (item_taken layout t all p s)
unfolding item_taken
item_of_layout u n t all basic Listed is said valued p placed s same = listed_taken_well u n t all basic t.slashed is said valued p placed s same
item_of_layout u n t all basic (Labelled label) is said valued p placed s same = format_taken_well u n t all basic is said valued p placed s same
item_of_layout u n t all basic Computed is said valued p placed s same = format_taken_well u n t all basic is said valued p placed s same
item_of_layout u n t all basic Unformatted is said valued p placed s same = format_taken_well u n t all basic is said valued p placed s same

-- the start of an input
pub first_of_lines : (u : ProgramUnit) (n : ℕ) (t : Transfer) (all : Supply) (lines : List Bytes) (s : Store) → IsTransfer u n Input t → IsSaid all.beyond → HasMany n s →
    TakesWell u n (first_read s t all lines)
unfolding first_read
first_of_lines u n t all [] s is said same = supply_out u n all said s same
first_of_lines u n t all (line ∷ later) s is said same =
    serves_well (record t { place = list.Between false line; lines = line ∷ [] }) 1 s
    (transfer_kept u n t (line ∷ []) t.taken (list.Between false line) t.slashed t.wants is (between_outside false line)) same

pub first_read_well : (u : ProgramUnit) (w : World) (t : Transfer) → IsTransfer u (length w.store) Input t →
    TakesWell u (length w.store) (first_read w.store t (supply w t) (supply w t).lines)
first_read_well u w t is = first_of_lines u (length w.store) t (supply w t) (supply w t).lines w.store is (supply_said u w t is) refl

-- what the format gives behind the last item
pub closing_of_layout : (u : ProgramUnit) (w : World) (t : Transfer) (all : Supply) (layout : Layout) → IsTransfer u (length w.store) Input t → IsSaid all.beyond →
    TakesWell u (length w.store) (closing_taken layout w t all)
unfolding closing_taken values_stored
closing_of_layout u w t all Listed is said = serves_well t 0 w.store is refl
closing_of_layout u w t all (Labelled label) is said =
    input_taken_well u (length w.store) t all [] w.store (taken.taken t.format (lines_with t all) t.wants t.zeros) is said (kept (length w.store) w.store refl)
closing_of_layout u w t all Computed is said =
    input_taken_well u (length w.store) t all [] w.store (taken.taken t.format (lines_with t all) t.wants t.zeros) is said (kept (length w.store) w.store refl)
closing_of_layout u w t all Unformatted is said =
    input_taken_well u (length w.store) t all [] w.store (taken.taken t.format (lines_with t all) t.wants t.zeros) is said (kept (length w.store) w.store refl)

pub closing_taken_well : (u : ProgramUnit) (w : World) (t : Transfer) → IsTransfer u (length w.store) Input t →
    TakesWell u (length w.store) (closing_taken t.layout w t (supply w t))
closing_taken_well u w t is = closing_of_layout u w t (supply w t) t.layout is (supply_said u w t is)
