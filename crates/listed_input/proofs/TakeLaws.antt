-- What an item comes to where its search ends.
use Rattle.std.proofs.Common.{◌≡◌, ℕ, zero, suc, ◌+◌, ◌-◌, ◌≤◌, ◌<◌, ℤ, pos, Bool, true, false, List, [], ◌∷◌, ◌++◌, length, take, replicate, Option, refl, ap, sym, ◌∙◌, arith, append_assoc, append-nil, length-append, ◌⊎◌, inl, inr}
use Rattle.std.specs.Prelude.{Ok, nat_le, if◌then◌else◌}
use Rattle.std.proofs.lemmas.Bool.{cases_lt}
use Rattle.c_tree.specs.run_state.Units.{Units}
use Rattle.c_tree.specs.declared.outcome.CFault.{CFault}
use Rattle.c_tree.specs.Faults.{Or, after, failing}
use Rattle.c_tree.specs.Objects.{Object}
use Rattle.c_tree.specs.World.{Medium, Transfer, World}
use Rattle.c_tree.specs.World as media
use Rattle.c_tree.specs.LibraryArguments.{text_stored, fitted}
use Rattle.c_tree.specs.Transfers.{Upcoming, read_on, units_behind, medium_behind, records_upcoming, nothing_but, ended_by, Passage, GoesOn, Answers}
use Rattle.c_tree.specs.Transfers as next
use Rattle.c_tree.specs.TransferInput.{runs_out, records_needed, value_taken, behind, given, line_behind, listed_stop, listed_taken}
use Rattle.edit_rules.specs.edit_meaning.ListInput.{Kind, Place}
use Rattle.edit_rules.specs.edit_meaning.ListItems.{Value, IntValue, LogicalValue, TextValue, Kept, Outcome, Filled, Slashed, Failed, EndOfRecords, Item, Takes, Stops, begun_with, begun_with_value, begun_with_outcome, item_over}
use Rattle.f2c_outside.specs.Table.{Row}
use Rattle.f2c_outside.specs.Meaning.{Tells, units_of}
use Rattle.unit_answers.specs.Answers.{world_with}
use Rattle.unit_answers.proofs.OrLemmas.{known, faulty}
use Rattle.listed_input.specs.declared.reading.RecordInReading.{RecordInReading}
use Rattle.listed_input.specs.Fetching.{coming}
use Rattle.listed_input.specs.Reading.{place_of, IsBehind, ItemGoesOn, taken_at}
use Rattle.listed_input.proofs.ItemLaws.{IsTextItem}
use Rattle.listed_input.proofs.StoreLaws.{take-both, take-none}
use Rattle.listed_input.specs.Searching.{Search, kind_in, Seeking}
use Rattle.listed_input.proofs.SeekLaws.{on-last}

-- a transfer where an item begins
pub record IsAt (from : Search) (transfer : Transfer) : Type 0 where
  pub medium : transfer.medium ≡ media.Unit from.unit
  pub place : transfer.place ≡ from.place
  pub slashed : transfer.slashed ≡ false

abbrev pub meaning_of : Search → Transfer → Option Transfer → Or Passage
meaning_of from transfer stale = taken_at from.unit from.item transfer from.objects stale (units_of from.rows) from.place

-- the item, with the records that come next
abbrev next_in : Search → Upcoming
next_in from = coming from.unit (units_of from.rows)

abbrev taken_as : Search → Transfer → Option Transfer → Item → Or Passage
taken_as from transfer stale item =
    listed_taken (kind_in from) from.item.pointer from.item.size transfer (world_with from.objects stale (units_of from.rows)) (next_in from) item

meaning-item : (from : Search) (reading : RecordInReading) (objects : List Object) (rows : List Row) (done : ℕ) (transfer : Transfer) (stale : Option Transfer) →
    (seeking : Seeking from reading objects rows done) → Tells from.rows →
    meaning_of from transfer stale ≡ taken_as from transfer stale (begun_with seeking.text (item_over (place_of reading) (coming from.unit (units_of rows)).lines (kind_in from)))
meaning-item from reading objects rows done transfer stale seeking tells =
    ap (taken_as from transfer stale)
    (ap (λ (next : Upcoming). item_over from.place next.lines (kind_in from)) (seeking.comes tells) ∙ seeking.same (coming from.unit (units_of rows)).lines)

read-count : (from : Search) (reading : RecordInReading) (objects : List Object) (rows : List Row) (done : ℕ) (seeking : Seeking from reading objects rows done) → Tells from.rows →
    length (next_in from).lines - length (coming from.unit (units_of rows)).lines ≡ length seeking.front
read-count from reading objects rows done seeking tells =
    let size : length (next_in from).lines ≡ length seeking.front + length (coming from.unit (units_of rows)).lines =
    ap (λ (next : Upcoming). length next.lines) (seeking.comes tells) ∙ length-append seeking.front (coming from.unit (units_of rows)).lines in
    omega (arith, size)

-- the units and the medium behind records of a unit
units-on : (unit : ℤ) (medium : Medium) (n k : ℕ) (units after : Units) → medium ≡ media.Unit unit → n ≡ k → after ≡ read_on k unit units → units_behind n medium units ≡ after
units-on unit medium n k units after is count reads =
    ap (λ (one : Medium). units_behind n one units) is ∙ ap (λ (m : ℕ). read_on m unit units) count ∙ sym reads

medium-same : (unit : ℤ) (medium : Medium) (n : ℕ) → medium ≡ media.Unit unit → medium_behind n medium ≡ medium
medium-same unit medium n is = ap (medium_behind n) is ∙ sym is

-- ## A value

-- the transfer behind a value
abbrev valued : Search → Transfer → Value → Place → ℕ → Transfer
valued from transfer value place read =
    record (given value (behind read transfer)) { place = place; line = line_behind read (next_in from).lines transfer.line }

valued-behind : (from : Search) (transfer : Transfer) (value : Value) (place : Place) (read : ℕ) → IsAt from transfer → IsBehind transfer (valued from transfer value place read) place false
valued-behind from transfer value place read at = record {
  direction = refl;
  layout = refl;
  medium = medium-same from.unit transfer.medium read at.medium;
  on_error = refl;
  on_end = refl;
  slashed_is = at.slashed;
  place_is = λ not. refl;
}

taken-is : (from : Search) (reading : RecordInReading) (objects : List Object) (rows : List Row) (done : ℕ) (transfer : Transfer) (stale : Option Transfer) (value : Value) (place : Place) →
    (seeking : Seeking from reading objects rows done) → Tells from.rows →
    ((later : List (List ℕ)) → item_over (place_of reading) later (kind_in from) ≡ Takes value place later) →
    meaning_of from transfer stale ≡ taken_as from transfer stale (Takes (begun_with_value seeking.text value) place (coming from.unit (units_of rows)).lines)
taken-is from reading objects rows done transfer stale value place seeking tells is =
    meaning-item from reading objects rows done transfer stale seeking tells
    ∙ ap (λ (item : Item). taken_as from transfer stale (begun_with seeking.text item)) (is (coming from.unit (units_of rows)).lines)

pub takes-on : (from : Search) (reading : RecordInReading) (objects objects' : List Object) (rows : List Row) (done : ℕ) (transfer : Transfer) (stale : Option Transfer) (value : Value) (place : Place) →
    (seeking : Seeking from reading objects rows done) → Tells from.rows → IsAt from transfer →
    ((later : List (List ℕ)) → item_over (place_of reading) later (kind_in from) ≡ Takes value place later) →
    value_taken from.objects from.item.pointer from.item.size (begun_with_value seeking.text value) ≡ Ok objects' →
    ItemGoesOn (meaning_of from transfer stale) transfer objects' stale (units_of rows) place false
takes-on from reading objects objects' rows done transfer stale value place seeking tells at is stores =
    let read : ℕ = length (next_in from).lines - length (coming from.unit (units_of rows)).lines in
    let taken : Value = begun_with_value seeking.text value in
    record {
      transfer' = valued from transfer taken place read;
      is_behind = valued-behind from transfer taken place read at;
      goes_on =
          taken-is from reading objects rows done transfer stale value place seeking tells is
          ∙ known (value_taken from.objects from.item.pointer from.item.size taken) objects' _ (sym stores)
          ∙ ap (λ (units : Units). Ok (GoesOn (valued from transfer taken place read) (world_with objects' stale units)))
          (units-on from.unit transfer.medium read (length seeking.front) (units_of from.rows) (units_of rows) at.medium
          (read-count from reading objects rows done seeking tells) (seeking.reads tells));
    }

pub takes-faulty : (from : Search) (reading : RecordInReading) (objects : List Object) (rows : List Row) (done : ℕ) (transfer : Transfer) (stale : Option Transfer) (value : Value) (place : Place) →
    (fault : CFault) → (seeking : Seeking from reading objects rows done) → Tells from.rows →
    ((later : List (List ℕ)) → item_over (place_of reading) later (kind_in from) ≡ Takes value place later) →
    value_taken from.objects from.item.pointer from.item.size (begun_with_value seeking.text value) ≡ failing fault →
    meaning_of from transfer stale ≡ failing fault
takes-faulty from reading objects rows done transfer stale value place fault seeking tells is wrong =
    taken-is from reading objects rows done transfer stale value place seeking tells is
    ∙ faulty (value_taken from.objects from.item.pointer from.item.size (begun_with_value seeking.text value)) fault _ (sym wrong)

-- before a text is begun the objects are as they were
pub fresh-objects : (from : Search) (reading : RecordInReading) (objects : List Object) (rows : List Row) (done : ℕ) (seeking : Seeking from reading objects rows done) → seeking.text ≡ [] →
    from.objects ≡ objects
fresh-objects from reading objects rows done seeking none =
    let is : (let all : Or (List Object) = Ok from.objects in all) ≡ Ok objects =
    sym (ap (text_stored from.objects from.item.pointer) (ap (take from.item.size) none ∙ take-none from.item.size)) ∙ seeking.written.stored in cc

-- ## A stop

pub needed-count : (place : Place) (lines : List (List ℕ)) (kind : Kind) (count : ℕ) → ((j : ℕ) → j < count → runs_out (item_over place (take j lines) kind) ≡ true) →
    runs_out (item_over place (take count lines) kind) ≡ false → (more so_far : ℕ) → so_far ≤ count → count ≤ so_far + more →
    records_needed more so_far place lines kind ≡ count
needed-count place lines kind count out stops zero so_far below above = omega (arith, below, above)
needed-count place lines kind count out stops (suc more) so_far below above = by (cases_lt so_far count) (λ less. needed-count place lines kind count out stops more (so_far + 1) less (omega (arith, above)))
  where
    by : (so_far < count) ⊎ (count ≤ so_far) → (so_far + 1 ≤ count → records_needed more (so_far + 1) place lines kind ≡ count) →
        (if runs_out (item_over place (take so_far lines) kind) then records_needed more (so_far + 1) place lines kind else so_far) ≡ count
    by (inl less) rest =
        ap (λ (runs : Bool). if runs then records_needed more (so_far + 1) place lines kind else so_far) (out so_far less) ∙ rest (omega (arith, less))
    by (inr past) rest =
        let same : so_far ≡ count = omega (arith, below, past) in
        ap (λ (runs : Bool). if runs then records_needed more (so_far + 1) place lines kind else so_far)
        (ap (λ (n : ℕ). runs_out (item_over place (take n lines) kind)) same ∙ stops) ∙ same

pub take-front : (j : ℕ) (front later : List (List ℕ)) → j ≤ length front → take j (front ++ later) ≡ take j front
take-front j front later within =
    take-both (List ℕ) j front later
    ∙ ap (λ (n : ℕ). take j front ++ take n later) (let e : j - length front ≡ 0 = omega (arith, within) in e)
    ∙ append-nil (take j front)

pub take-all : (front : List (List ℕ)) → take (length front) front ≡ front
take-all [] = refl
take-all (first ∷ later) = ap (λ (rest : List (List ℕ)). first ∷ rest) (take-all later)

needed-is : (from : Search) (reading : RecordInReading) (objects : List Object) (rows : List Row) (done : ℕ) (seeking : Seeking from reading objects rows done) → Tells from.rows →
    runs_out (begun_with seeking.text (item_over (place_of reading) [] (kind_in from))) ≡ false →
    records_needed (length (next_in from).lines) 0 from.place (next_in from).lines (kind_in from) ≡ length seeking.front
needed-is from reading objects rows done seeking tells stops =
    let later : List (List ℕ) = (coming from.unit (units_of rows)).lines in
    let lines : (next_in from).lines ≡ seeking.front ++ later = ap (λ (next : Upcoming). next.lines) (seeking.comes tells) in
    needed-count from.place (next_in from).lines (kind_in from) (length seeking.front)
    (λ j before.
    ap (λ (all : List (List ℕ)). runs_out (item_over from.place all (kind_in from)))
    (ap (take j) lines ∙ take-front j seeking.front later (omega (arith, before)))
    ∙ seeking.out j before)
    (ap (λ (all : List (List ℕ)). runs_out (item_over from.place all (kind_in from)))
    (ap (take (length seeking.front)) lines ∙ take-front (length seeking.front) seeking.front later (omega arith) ∙ take-all seeking.front ∙ sym (append-nil seeking.front))
    ∙ ap runs_out (seeking.same []) ∙ stops)
    (length (next_in from).lines) 0 (omega arith)
    (let size : length (next_in from).lines ≡ length seeking.front + length later = ap length lines ∙ length-append seeking.front later in omega (arith, size))

stop-is : (from : Search) (reading : RecordInReading) (objects : List Object) (rows : List Row) (done : ℕ) (transfer : Transfer) (stale : Option Transfer) (outcome : Outcome) →
    (seeking : Seeking from reading objects rows done) → Tells from.rows → IsAt from transfer →
    ((later : List (List ℕ)) → item_over (place_of reading) later (kind_in from) ≡ Stops outcome) → runs_out (Stops (begun_with_outcome seeking.text outcome)) ≡ false →
    meaning_of from transfer stale
    ≡ listed_stop from.item.pointer from.item.size transfer (world_with from.objects stale (units_of from.rows)) (next_in from) (length seeking.front)
    (begun_with_outcome seeking.text outcome)
stop-is from reading objects rows done transfer stale outcome seeking tells at is goes =
    meaning-item from reading objects rows done transfer stale seeking tells
    ∙ ap (λ (item : Item). taken_as from transfer stale (begun_with seeking.text item)) (is (coming from.unit (units_of rows)).lines)
    ∙ ap (λ (needed : ℕ). listed_stop from.item.pointer from.item.size transfer (world_with from.objects stale (units_of from.rows)) (next_in from) needed
    (begun_with_outcome seeking.text outcome))
    (ap (λ (place : Place). records_needed (length (next_in from).lines) 0 place (next_in from).lines (kind_in from)) at.place
    ∙ needed-is from reading objects rows done seeking tells (ap (λ (item : Item). runs_out (begun_with seeking.text item)) (is []) ∙ goes))

pub slash-on : (from : Search) (reading : RecordInReading) (objects : List Object) (rows : List Row) (done : ℕ) (transfer : Transfer) (stale : Option Transfer) (place : Place) →
    (seeking : Seeking from reading objects rows done) → Tells from.rows → IsAt from transfer → seeking.text ≡ [] →
    ((later : List (List ℕ)) → item_over (place_of reading) later (kind_in from) ≡ Stops Slashed) →
    ItemGoesOn (meaning_of from transfer stale) transfer objects stale (units_of rows) place true
slash-on from reading objects rows done transfer stale place seeking tells at none is =
    let needed : ℕ = length seeking.front in
    let later : Transfer = record (given Kept (behind needed transfer)) { slashed = true; line = line_behind needed (next_in from).lines transfer.line } in
    record {
      transfer' = later;
      is_behind = record {
        direction = refl;
        layout = refl;
        medium = medium-same from.unit transfer.medium needed at.medium;
        on_error = refl;
        on_end = refl;
        slashed_is = refl;
        place_is = λ wrong. absurd (cc);
      };
      goes_on =
          stop-is from reading objects rows done transfer stale Slashed seeking tells at is refl
          ∙ ap (λ (units : Units). Ok (GoesOn later (world_with from.objects stale units)))
          (units-on from.unit transfer.medium needed needed (units_of from.rows) (units_of rows) at.medium refl (seeking.reads tells))
          ∙ ap (λ (all : List Object). Ok (GoesOn later (world_with all stale (units_of rows)))) (fresh-objects from reading objects rows done seeking none);
    }

text-kept : (from : Search) (reading : RecordInReading) (objects : List Object) (rows : List Row) (done : ℕ) (seeking : Seeking from reading objects rows done) →
    text_stored from.objects from.item.pointer (take from.item.size (seeking.text ++ [])) ≡ Ok objects
text-kept from reading objects rows done seeking =
    ap (λ (text : List ℕ). text_stored from.objects from.item.pointer (take from.item.size text)) (append-nil seeking.text) ∙ seeking.written.stored

pub wrong-ends : (from : Search) (reading : RecordInReading) (objects : List Object) (rows : List Row) (done number : ℕ) (transfer : Transfer) (stale : Option Transfer) →
    Seeking from reading objects rows done → Tells from.rows → IsAt from transfer →
    ((later : List (List ℕ)) → item_over (place_of reading) later (kind_in from) ≡ Stops (Failed number [])) →
    meaning_of from transfer stale ≡ Ok (Answers (ended_by (pos number) transfer (world_with objects stale (units_of rows))))
wrong-ends from reading objects rows done number transfer stale seeking tells at is =
    stop-is from reading objects rows done transfer stale (Failed number []) seeking tells at is refl
    ∙ known (text_stored from.objects from.item.pointer (take from.item.size (seeking.text ++ []))) objects _ (sym (text-kept from reading objects rows done seeking))
    ∙ ap (λ (units : Units). Ok (Answers (ended_by (pos number) transfer (world_with objects stale units))))
    (units-on from.unit transfer.medium (length seeking.front) (length seeking.front) (units_of from.rows) (units_of rows) at.medium refl (seeking.reads tells))

pub records-end : (from : Search) (reading : RecordInReading) (objects : List Object) (rows : List Row) (done : ℕ) (number : ℤ) (after_it : Units) (transfer : Transfer) (stale : Option Transfer) →
    Seeking from reading objects rows done → Tells from.rows → IsAt from transfer →
    item_over (place_of reading) [] (kind_in from) ≡ Stops (EndOfRecords []) →
    coming from.unit (units_of rows) ≡ nothing_but (Ok number) → after_it ≡ read_on 1 from.unit (units_of rows) →
    meaning_of from transfer stale ≡ Ok (Answers (ended_by number transfer (world_with objects stale after_it)))
records-end from reading objects rows done number after_it transfer stale seeking tells at is none reads =
    let needed : ℕ = records_needed (length (next_in from).lines) 0 transfer.place (next_in from).lines (kind_in from) in
    let then_is : (next_in from).then_comes ≡ Ok number =
    ap (λ (next : Upcoming). next.then_comes) (seeking.comes tells) ∙ ap (λ (next : Upcoming). next.then_comes) none in
    let size : length (next_in from).lines ≡ length seeking.front =
    ap (λ (next : Upcoming). length next.lines) (seeking.comes tells) ∙ ap (λ (next : Upcoming). length (seeking.front ++ next.lines)) none
    ∙ ap length (append-nil seeking.front) in
    let behind_all : after_it ≡ read_on (length seeking.front + 1) from.unit (units_of from.rows) =
    reads ∙ ap (read_on 1 from.unit) (seeking.reads tells) ∙ sym (on-last (length seeking.front) from.unit (units_of from.rows))
    ∙ ap (λ (n : ℕ). read_on n from.unit (units_of from.rows)) (let e : suc (length seeking.front) ≡ length seeking.front + 1 = omega arith in e) in
    meaning-item from reading objects rows done transfer stale seeking tells
    ∙ ap (λ (lines : List (List ℕ)). taken_as from transfer stale (begun_with seeking.text (item_over (place_of reading) lines (kind_in from))))
    (ap (λ (next : Upcoming). next.lines) none)
    ∙ ap (λ (item : Item). taken_as from transfer stale (begun_with seeking.text item)) is
    ∙ known (next_in from).then_comes number _ (sym then_is)
    ∙ known (text_stored from.objects from.item.pointer (take from.item.size (seeking.text ++ []))) objects _ (sym (text-kept from reading objects rows done seeking))
    ∙ ap (λ (units : Units). Ok (Answers (ended_by number transfer (world_with objects stale units))))
    (units-on from.unit transfer.medium (length (next_in from).lines + 1) (length seeking.front + 1) (units_of from.rows) after_it at.medium
    (ap (λ (n : ℕ). n + 1) size) behind_all)

-- ## A text that cannot be stored

-- what stands in place of records of a unit is a number
record HasNumber (comes : Or ℤ) : Type 0 where
  number : ℤ
  is : comes ≡ Ok number

number-there : (lines : List (List ℕ)) → HasNumber (records_upcoming lines).then_comes
number-there [] = record { number = _; is = refl }
number-there (line ∷ later) = by (nat_le (length line) 1024) (number-there later)
  where
    by : (short : Bool) → HasNumber (records_upcoming later).then_comes →
        HasNumber (if short then record (records_upcoming later) { lines = line ∷ (records_upcoming later).lines } else nothing_but (Ok (pos 5))).then_comes
    by true there = there
    by false there = record { number = pos 5; is = refl }

-- a text with this in front has this fault
abbrev FaultyWith : Search → List ℕ → CFault → Type 0
FaultyWith from front fault = (more : List ℕ) → text_stored from.objects from.item.pointer (take from.item.size (front ++ more)) ≡ failing fault

fault-taken : (from : Search) (transfer : Transfer) (stale : Option Transfer) (front : List ℕ) (fault : CFault) (item : Item) → FaultyWith from front fault → IsTextItem item →
    taken_as from transfer stale (begun_with front item) ≡ failing fault
fault-taken from transfer stale front fault (Takes (TextValue text) place later) wrong is =
    faulty (text_stored from.objects from.item.pointer (fitted from.item.size (front ++ text))) fault _
    (sym (ap (λ (all : List ℕ). text_stored from.objects from.item.pointer (take from.item.size all)) (append_assoc front text (replicate (from.item.size - length (front ++ text)) 32))
    ∙ wrong (text ++ replicate (from.item.size - length (front ++ text)) 32)))
fault-taken from transfer stale front fault (Takes (IntValue number) place later) wrong is = absurd is
fault-taken from transfer stale front fault (Takes (LogicalValue truth) place later) wrong is = absurd is
fault-taken from transfer stale front fault (Takes Kept place later) wrong is = absurd is
fault-taken from transfer stale front fault (Stops (Failed number text)) wrong is =
    faulty (text_stored from.objects from.item.pointer (take from.item.size (front ++ text))) fault _ (sym (wrong text))
fault-taken from transfer stale front fault (Stops (EndOfRecords text)) wrong is =
    let there : HasNumber (next_in from).then_comes = number-there (next.records_left ((units_of from.rows).connected from.unit)) in
    known (next_in from).then_comes there.number _ (sym there.is)
    ∙ faulty (text_stored from.objects from.item.pointer (take from.item.size (front ++ text))) fault _ (sym (wrong text))
fault-taken from transfer stale front fault (Stops Filled) wrong is = absurd is
fault-taken from transfer stale front fault (Stops Slashed) wrong is = absurd is

pub text-faulty : (from : Search) (reading : RecordInReading) (objects : List Object) (rows : List Row) (done : ℕ) (transfer : Transfer) (stale : Option Transfer) (piece : List ℕ) →
    (fault : CFault) (seeking : Seeking from reading objects rows done) → Tells from.rows →
    (behind_it : (later : List (List ℕ)) → Item) → ((later : List (List ℕ)) → item_over (place_of reading) later (kind_in from) ≡ begun_with piece (behind_it later)) →
    ((later : List (List ℕ)) → IsTextItem (behind_it later)) → ((front middle : List ℕ) (item : Item) → begun_with front (begun_with middle item) ≡ begun_with (front ++ middle) item) →
    ((more : List ℕ) → text_stored from.objects from.item.pointer (take from.item.size ((seeking.text ++ piece) ++ more)) ≡ failing fault) →
    meaning_of from transfer stale ≡ failing fault
text-faulty from reading objects rows done transfer stale piece fault seeking tells behind_it is text twice wrong =
    meaning-item from reading objects rows done transfer stale seeking tells
    ∙ ap (λ (item : Item). taken_as from transfer stale (begun_with seeking.text item)) (is (coming from.unit (units_of rows)).lines)
    ∙ ap (taken_as from transfer stale) (twice seeking.text piece (behind_it (coming from.unit (units_of rows)).lines))
    ∙ fault-taken from transfer stale (seeking.text ++ piece) fault (behind_it (coming from.unit (units_of rows)).lines) wrong (text (coming from.unit (units_of rows)).lines)
