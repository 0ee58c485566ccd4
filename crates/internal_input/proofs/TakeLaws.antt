-- What an item comes to where its search ends.
use Rattle.std.proofs.Common.{◌≡◌, ℕ, ◌+◌, ◌-◌, ℤ, pos, true, false, List, [], ◌++◌, length, take, Option, refl, ap, sym, ◌∙◌, arith, append-nil, length-append}
use Rattle.std.specs.Prelude.{Ok}
use Rattle.c_tree.specs.run_state.Units.{Units}
use Rattle.c_tree.specs.declared.outcome.CFault.{CFault}
use Rattle.c_tree.specs.Faults.{Or, failing}
use Rattle.c_tree.specs.Objects.{Object}
use Rattle.c_tree.specs.World.{InternalFile, Medium, Internal, Transfer}
use Rattle.c_tree.specs.LibraryArguments.{text_stored}
use Rattle.c_tree.specs.Transfers.{Upcoming, units_behind, medium_behind, nothing_but, ended_by, Passage, GoesOn, Answers}
use Rattle.c_tree.specs.TransferInput.{runs_out, records_needed, value_taken, behind, given, line_behind, listed_stop, listed_taken}
use Rattle.edit_rules.specs.edit_meaning.ListInput.{Place}
use Rattle.edit_rules.specs.edit_meaning.ListItems.{Value, Kept, Outcome, Slashed, Failed, EndOfRecords, Item, Takes, Stops, begun_with, begun_with_value, begun_with_outcome, item_over}
use Rattle.unit_answers.specs.Answers.{world_with}
use Rattle.unit_answers.proofs.OrLemmas.{known, faulty}
use Rattle.listed_input.proofs.TakeLaws.{needed-count, take-front, take-all}
use Rattle.listed_input.specs.declared.reading.RecordInReading.{RecordInReading}
use Rattle.listed_input.specs.Reading.{place_of}
use Rattle.internal_records.specs.Fetching.{coming}
use Rattle.internal_input.specs.Reading.{ItemGoesOn, taken_at}
use Rattle.internal_input.specs.Searching.{Search, kind_in, Seeking}

-- a transfer where an item begins
pub record IsAt (from : Search) (transfer : Transfer) : Type 0 where
  pub medium : transfer.medium ≡ Internal from.file
  pub place : transfer.place ≡ from.place
  pub slashed : transfer.slashed ≡ false

abbrev pub meaning_of : Search → Transfer → Option Transfer → Units → Or Passage
meaning_of from transfer stale units = taken_at from.item transfer from.objects stale units from.file from.place

-- the records that come next where the item begins
abbrev next_in : Search → Upcoming
next_in from = coming from.objects from.file

abbrev taken_as : Search → Transfer → Option Transfer → Units → Item → Or Passage
taken_as from transfer stale units item =
    listed_taken (kind_in from) from.item.pointer from.item.size transfer (world_with from.objects stale units) (next_in from) item

meaning-item : (from : Search) (reading : RecordInReading) (file : InternalFile) (buffer : List ℕ) (done : ℕ) (transfer : Transfer) (stale : Option Transfer) (units : Units) →
    (seeking : Seeking from reading file buffer done) →
    meaning_of from transfer stale units ≡ taken_as from transfer stale units (begun_with seeking.text (item_over (place_of reading) (coming from.objects file).lines (kind_in from)))
meaning-item from reading file buffer done transfer stale units seeking =
    ap (taken_as from transfer stale units)
    (ap (λ (next : Upcoming). item_over from.place next.lines (kind_in from)) seeking.comes ∙ seeking.same (coming from.objects file).lines)

read-count : (from : Search) (reading : RecordInReading) (file : InternalFile) (buffer : List ℕ) (done : ℕ) (seeking : Seeking from reading file buffer done) →
    length (next_in from).lines - length (coming from.objects file).lines ≡ length seeking.front
read-count from reading file buffer done seeking =
    let size : length (next_in from).lines ≡ length seeking.front + length (coming from.objects file).lines =
    ap (λ (next : Upcoming). length next.lines) seeking.comes ∙ length-append seeking.front (coming from.objects file).lines in
    omega (arith, size)

-- the units stay, and the file is behind its records
units-same : (from : Search) (transfer : Transfer) (count : ℕ) (units : Units) → IsAt from transfer → units_behind count transfer.medium units ≡ units
units-same from transfer count units at = ap (λ (one : Medium). units_behind count one units) at.medium

medium-moved : (from : Search) (reading : RecordInReading) (file : InternalFile) (buffer : List ℕ) (done count : ℕ) (transfer : Transfer) (seeking : Seeking from reading file buffer done) →
    IsAt from transfer → count ≡ length seeking.front → medium_behind count transfer.medium ≡ Internal file
medium-moved from reading file buffer done count transfer seeking at is =
    ap (medium_behind count) at.medium ∙ ap (λ (n : ℕ). medium_behind n (Internal from.file)) is ∙ ap Internal (sym seeking.behind)

-- ## A value

-- the transfer behind a value
abbrev valued : Search → Transfer → Value → Place → ℕ → Transfer
valued from transfer value place read =
    record (given value (behind read transfer)) { place = place; line = line_behind read (next_in from).lines transfer.line }

taken-is : (from : Search) (reading : RecordInReading) (file : InternalFile) (buffer : List ℕ) (done : ℕ) (transfer : Transfer) (stale : Option Transfer) (units : Units) (value : Value) (place : Place) →
    (seeking : Seeking from reading file buffer done) →
    ((later : List (List ℕ)) → item_over (place_of reading) later (kind_in from) ≡ Takes value place later) →
    meaning_of from transfer stale units ≡ taken_as from transfer stale units (Takes (begun_with_value seeking.text value) place (coming from.objects file).lines)
taken-is from reading file buffer done transfer stale units value place seeking is =
    meaning-item from reading file buffer done transfer stale units seeking
    ∙ ap (λ (item : Item). taken_as from transfer stale units (begun_with seeking.text item)) (is (coming from.objects file).lines)

pub takes-on : (from : Search) (reading : RecordInReading) (file : InternalFile) (buffer : List ℕ) (done : ℕ) (objects : List Object) (transfer : Transfer) (stale : Option Transfer) (units : Units) →
    (value : Value) (place : Place) (seeking : Seeking from reading file buffer done) → IsAt from transfer →
    ((later : List (List ℕ)) → item_over (place_of reading) later (kind_in from) ≡ Takes value place later) →
    value_taken from.objects from.item.pointer from.item.size (begun_with_value seeking.text value) ≡ Ok objects →
    ItemGoesOn (meaning_of from transfer stale units) transfer objects stale units file place false
takes-on from reading file buffer done objects transfer stale units value place seeking at is stores =
    let read : ℕ = length (next_in from).lines - length (coming from.objects file).lines in
    let taken : Value = begun_with_value seeking.text value in
    record {
      transfer' = valued from transfer taken place read;
      is_behind = record {
        direction = refl;
        layout = refl;
        medium = medium-moved from reading file buffer done read transfer seeking at (read-count from reading file buffer done seeking);
        on_error = refl;
        on_end = refl;
        slashed_is = at.slashed;
        place_is = λ not. refl;
      };
      goes_on =
          taken-is from reading file buffer done transfer stale units value place seeking is
          ∙ known (value_taken from.objects from.item.pointer from.item.size taken) objects _ (sym stores)
          ∙ ap (λ (all : Units). Ok (GoesOn (valued from transfer taken place read) (world_with objects stale all))) (units-same from transfer read units at);
    }

pub takes-faulty : (from : Search) (reading : RecordInReading) (file : InternalFile) (buffer : List ℕ) (done : ℕ) (transfer : Transfer) (stale : Option Transfer) (units : Units) (value : Value) (place : Place) →
    (fault : CFault) → (seeking : Seeking from reading file buffer done) →
    ((later : List (List ℕ)) → item_over (place_of reading) later (kind_in from) ≡ Takes value place later) →
    value_taken from.objects from.item.pointer from.item.size (begun_with_value seeking.text value) ≡ failing fault →
    meaning_of from transfer stale units ≡ failing fault
takes-faulty from reading file buffer done transfer stale units value place fault seeking is wrong =
    taken-is from reading file buffer done transfer stale units value place seeking is
    ∙ faulty (value_taken from.objects from.item.pointer from.item.size (begun_with_value seeking.text value)) fault _ (sym wrong)

-- ## A stop

needed-is : (from : Search) (reading : RecordInReading) (file : InternalFile) (buffer : List ℕ) (done : ℕ) (seeking : Seeking from reading file buffer done) →
    runs_out (begun_with seeking.text (item_over (place_of reading) [] (kind_in from))) ≡ false →
    records_needed (length (next_in from).lines) 0 from.place (next_in from).lines (kind_in from) ≡ length seeking.front
needed-is from reading file buffer done seeking stops =
    let later : List (List ℕ) = (coming from.objects file).lines in
    let lines : (next_in from).lines ≡ seeking.front ++ later = ap (λ (next : Upcoming). next.lines) seeking.comes in
    needed-count from.place (next_in from).lines (kind_in from) (length seeking.front)
    (λ j before.
    ap (λ (all : List (List ℕ)). runs_out (item_over from.place all (kind_in from)))
    (ap (take j) lines ∙ take-front j seeking.front later (omega (arith, before)))
    ∙ seeking.out j before)
    (ap (λ (all : List (List ℕ)). runs_out (item_over from.place all (kind_in from)))
    (ap (take (length seeking.front)) lines ∙ take-front (length seeking.front) seeking.front later (omega arith) ∙ take-all seeking.front ∙ sym (append-nil seeking.front))
    ∙ ap runs_out (seeking.same []) ∙ stops)
    (length (next_in from).lines) 0 (omega arith)
    (let size : length (next_in from).lines ≡ length seeking.front + length later = ap length lines ∙ length-append seeking.front later in omega (arith, size))

stop-is : (from : Search) (reading : RecordInReading) (file : InternalFile) (buffer : List ℕ) (done : ℕ) (transfer : Transfer) (stale : Option Transfer) (units : Units) (outcome : Outcome) →
    (seeking : Seeking from reading file buffer done) → IsAt from transfer →
    ((later : List (List ℕ)) → item_over (place_of reading) later (kind_in from) ≡ Stops outcome) → runs_out (Stops (begun_with_outcome seeking.text outcome)) ≡ false →
    meaning_of from transfer stale units
    ≡ listed_stop from.item.pointer from.item.size transfer (world_with from.objects stale units) (next_in from) (length seeking.front) (begun_with_outcome seeking.text outcome)
stop-is from reading file buffer done transfer stale units outcome seeking at is goes =
    meaning-item from reading file buffer done transfer stale units seeking
    ∙ ap (λ (item : Item). taken_as from transfer stale units (begun_with seeking.text item)) (is (coming from.objects file).lines)
    ∙ ap (λ (needed : ℕ). listed_stop from.item.pointer from.item.size transfer (world_with from.objects stale units) (next_in from) needed (begun_with_outcome seeking.text outcome))
    (ap (λ (place : Place). records_needed (length (next_in from).lines) 0 place (next_in from).lines (kind_in from)) at.place
    ∙ needed-is from reading file buffer done seeking (ap (λ (item : Item). runs_out (begun_with seeking.text item)) (is []) ∙ goes))

pub slash-on : (from : Search) (reading : RecordInReading) (file : InternalFile) (buffer : List ℕ) (done : ℕ) (transfer : Transfer) (stale : Option Transfer) (units : Units) (place : Place) →
    (seeking : Seeking from reading file buffer done) → IsAt from transfer →
    ((later : List (List ℕ)) → item_over (place_of reading) later (kind_in from) ≡ Stops Slashed) →
    ItemGoesOn (meaning_of from transfer stale units) transfer from.objects stale units file place true
slash-on from reading file buffer done transfer stale units place seeking at is =
    let needed : ℕ = length seeking.front in
    let later : Transfer = record (given Kept (behind needed transfer)) { slashed = true; line = line_behind needed (next_in from).lines transfer.line } in
    record {
      transfer' = later;
      is_behind = record {
        direction = refl;
        layout = refl;
        medium = medium-moved from reading file buffer done needed transfer seeking at refl;
        on_error = refl;
        on_end = refl;
        slashed_is = refl;
        place_is = λ wrong. absurd (cc);
      };
      goes_on =
          stop-is from reading file buffer done transfer stale units Slashed seeking at is refl
          ∙ ap (λ (all : Units). Ok (GoesOn later (world_with from.objects stale all))) (units-same from transfer needed units at);
    }

-- the text so far
no-more : (from : Search) (text : List ℕ) (found : Or (List Object)) → text_stored from.objects from.item.pointer (take from.item.size text) ≡ found →
    text_stored from.objects from.item.pointer (take from.item.size (text ++ [])) ≡ found
no-more from text found is = ap (λ (all : List ℕ). text_stored from.objects from.item.pointer (take from.item.size all)) (append-nil text) ∙ is

pub wrong-ends : (from : Search) (reading : RecordInReading) (file : InternalFile) (buffer : List ℕ) (done number : ℕ) (objects : List Object) (transfer : Transfer) (stale : Option Transfer) (units : Units) →
    (seeking : Seeking from reading file buffer done) → IsAt from transfer →
    ((later : List (List ℕ)) → item_over (place_of reading) later (kind_in from) ≡ Stops (Failed number [])) →
    text_stored from.objects from.item.pointer (take from.item.size seeking.text) ≡ Ok objects →
    meaning_of from transfer stale units ≡ Ok (Answers (ended_by (pos number) transfer (world_with objects stale units)))
wrong-ends from reading file buffer done number objects transfer stale units seeking at is stores =
    stop-is from reading file buffer done transfer stale units (Failed number []) seeking at is refl
    ∙ known (text_stored from.objects from.item.pointer (take from.item.size (seeking.text ++ []))) objects _ (sym (no-more from seeking.text (Ok objects) stores))
    ∙ ap (λ (all : Units). Ok (Answers (ended_by (pos number) transfer (world_with objects stale all)))) (units-same from transfer (length seeking.front) units at)

pub wrong-faulty : (from : Search) (reading : RecordInReading) (file : InternalFile) (buffer : List ℕ) (done number : ℕ) (fault : CFault) (transfer : Transfer) (stale : Option Transfer) (units : Units) →
    (seeking : Seeking from reading file buffer done) → IsAt from transfer →
    ((later : List (List ℕ)) → item_over (place_of reading) later (kind_in from) ≡ Stops (Failed number [])) →
    text_stored from.objects from.item.pointer (take from.item.size seeking.text) ≡ failing fault →
    meaning_of from transfer stale units ≡ failing fault
wrong-faulty from reading file buffer done number fault transfer stale units seeking at is wrong =
    stop-is from reading file buffer done transfer stale units (Failed number []) seeking at is refl
    ∙ faulty (text_stored from.objects from.item.pointer (take from.item.size (seeking.text ++ []))) fault _ (sym (no-more from seeking.text (failing fault) wrong))

-- ## The records end

-- the item where no record comes next
none-is : (from : Search) (reading : RecordInReading) (file : InternalFile) (buffer : List ℕ) (done : ℕ) (then_comes : Or ℤ) (transfer : Transfer) (stale : Option Transfer) (units : Units) →
    (seeking : Seeking from reading file buffer done) → item_over (place_of reading) [] (kind_in from) ≡ Stops (EndOfRecords []) →
    coming from.objects file ≡ nothing_but then_comes →
    meaning_of from transfer stale units ≡ taken_as from transfer stale units (Stops (EndOfRecords (seeking.text ++ [])))
none-is from reading file buffer done then_comes transfer stale units seeking is none =
    meaning-item from reading file buffer done transfer stale units seeking
    ∙ ap (λ (lines : List (List ℕ)). taken_as from transfer stale units (begun_with seeking.text (item_over (place_of reading) lines (kind_in from))))
    (ap (λ (next : Upcoming). next.lines) none)
    ∙ ap (λ (item : Item). taken_as from transfer stale units (begun_with seeking.text item)) is

then-is : (from : Search) (reading : RecordInReading) (file : InternalFile) (buffer : List ℕ) (done : ℕ) (then_comes : Or ℤ) (seeking : Seeking from reading file buffer done) →
    coming from.objects file ≡ nothing_but then_comes → (next_in from).then_comes ≡ then_comes
then-is from reading file buffer done then_comes seeking none =
    ap (λ (next : Upcoming). next.then_comes) seeking.comes ∙ ap (λ (next : Upcoming). next.then_comes) none

pub records-end : (from : Search) (reading : RecordInReading) (file : InternalFile) (buffer : List ℕ) (done : ℕ) (number : ℤ) (objects : List Object) (transfer : Transfer) (stale : Option Transfer) (units : Units) →
    (seeking : Seeking from reading file buffer done) → IsAt from transfer → item_over (place_of reading) [] (kind_in from) ≡ Stops (EndOfRecords []) →
    coming from.objects file ≡ nothing_but (Ok number) → text_stored from.objects from.item.pointer (take from.item.size seeking.text) ≡ Ok objects →
    meaning_of from transfer stale units ≡ Ok (Answers (ended_by number transfer (world_with objects stale units)))
records-end from reading file buffer done number objects transfer stale units seeking at is none stores =
    none-is from reading file buffer done (Ok number) transfer stale units seeking is none
    ∙ known (next_in from).then_comes number _ (sym (then-is from reading file buffer done (Ok number) seeking none))
    ∙ known (text_stored from.objects from.item.pointer (take from.item.size (seeking.text ++ []))) objects _ (sym (no-more from seeking.text (Ok objects) stores))
    ∙ ap (λ (all : Units). Ok (Answers (ended_by number transfer (world_with objects stale all)))) (units-same from transfer (length (next_in from).lines + 1) units at)

pub records-stuck : (from : Search) (reading : RecordInReading) (file : InternalFile) (buffer : List ℕ) (done : ℕ) (number : ℤ) (fault : CFault) (transfer : Transfer) (stale : Option Transfer) (units : Units) →
    (seeking : Seeking from reading file buffer done) → item_over (place_of reading) [] (kind_in from) ≡ Stops (EndOfRecords []) →
    coming from.objects file ≡ nothing_but (Ok number) → text_stored from.objects from.item.pointer (take from.item.size seeking.text) ≡ failing fault →
    meaning_of from transfer stale units ≡ failing fault
records-stuck from reading file buffer done number fault transfer stale units seeking is none wrong =
    none-is from reading file buffer done (Ok number) transfer stale units seeking is none
    ∙ known (next_in from).then_comes number _ (sym (then-is from reading file buffer done (Ok number) seeking none))
    ∙ faulty (text_stored from.objects from.item.pointer (take from.item.size (seeking.text ++ []))) fault _ (sym (no-more from seeking.text (failing fault) wrong))

pub records-faulty : (from : Search) (reading : RecordInReading) (file : InternalFile) (buffer : List ℕ) (done : ℕ) (fault : CFault) (transfer : Transfer) (stale : Option Transfer) (units : Units) →
    (seeking : Seeking from reading file buffer done) → item_over (place_of reading) [] (kind_in from) ≡ Stops (EndOfRecords []) →
    coming from.objects file ≡ nothing_but (failing fault) → meaning_of from transfer stale units ≡ failing fault
records-faulty from reading file buffer done fault transfer stale units seeking is none =
    none-is from reading file buffer done (failing fault) transfer stale units seeking is none
    ∙ faulty (next_in from).then_comes fault _ (sym (then-is from reading file buffer done (failing fault) seeking none))
