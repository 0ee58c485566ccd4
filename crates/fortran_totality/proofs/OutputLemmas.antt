-- Output in a well-formed unit: the values of an item are there, records are put on a unit or into an internal file, and
-- what follows finds where control goes.
use Rattle.std.specs.Prelude.{◌≡◌, ℕ, zero, suc, ◌+◌, ◌/◌, ◌<◌, nat_le, nat_lt, ℤ, pos, Bool, true, false, List, [], ◌∷◌, ◌++◌, length, drop, Option, Some, None, Result, Ok, Err, IsTrue, if◌then◌else◌}
use Rattle.std.proofs.Common.{refl, sym, subst}
use Rattle.f_tree.specs.edit_meaning.Halts.{Halt, Number, EndOfRecords, OtherType}
use Rattle.f_tree.specs.edit_meaning.Listed as listed
use Rattle.f_tree.specs.run_state.Units.{Units, write_unit}
use Rattle.f_tree.specs.run_state.declared.refusals.UnitRefusal.{UnitRefusal}
use Rattle.f_tree.specs.declared.names.Basic.{Basic}
use Rattle.f_tree.specs.declared.names.Basic.TheVariants.{Character}
use Rattle.f_tree.specs.Values.{Bytes, Spot, Datum, IsText, IsSpot, Act, WrongDescriptor, Checked, Gives, Fails, given_that}
use Rattle.f_tree.specs.Store.{Store, fetch, define, elements_from, elements}
use Rattle.f_tree.specs.Facts.{Direction, Output, Layout, Listed, Labelled, Computed, Unformatted, ProgramUnit}
use Rattle.f_tree.specs.World.{Medium, External, Internal, Transfer, World}
use Rattle.f_tree.specs.Courses.{Course}
use Rattle.f_tree.specs.Statuses.{end_of_file, too_long, ends_well}
use Rattle.f_tree.specs.Records.{Writing, Wrote, StoppedBy, Broken, written_then, stopped_by, unit_written, record_count, record_place, record_stored, record_filled, put_line, put_lines}
use Rattle.f_tree.specs.Transfers.{listed_value, element_values, values_of, Made, made_by, halted_by, unless_halted, going_on, after_writing, records_put, put_then, values_put, made_before, element_put, value_met, each_put, formatted_put, item_written, output_ended}
use Rattle.f_tree.specs.WellTyped as typed
use Rattle.f_tree.specs.WellTyped.{Sort, ValueOf, PlaceOf, IsOf, is_named, Answers, IsValued}
use Rattle.f_tree.specs.WellFormed as formed
use Rattle.f_tree.specs.WellFormed.{IsListed}
use Rattle.f_tree.specs.Holding as holding
use Rattle.f_tree.specs.Holding.{IsMedium, IsTransfer}
use Rattle.fortran_totality.proofs.MeantLemmas.{Any, given_meant, fetch_meant}
use Rattle.fortran_totality.proofs.StoreLemmas.{define_held}
use Rattle.fortran_totality.proofs.UnitLemmas as numbered
use Rattle.fortran_totality.proofs.UnitLemmas.{HasNumber, write_has_number}
use Rattle.fortran_totality.proofs.TransferLemmas as course
use Rattle.fortran_totality.proofs.TransferLemmas.{IsLarge, Fares, going_on_fares, ends_well_fares, transfer_fails}

-- VALUES. Each value of a type can be written, and so can each element of a place
pub value_listed : (count : ℕ) (basic : Basic) (d : Datum) → IsValued basic → IsOf count (ValueOf basic) d → Answers Any (listed_value d)
unfolding listed_value Answers
value_listed count basic d typed.integers (typed.integer z) = tt
value_listed count basic d typed.logicals (typed.logical b) = tt
value_listed count basic d typed.texts (typed.text cs) = tt

pub elements_listed : (s : Store) (n : ℕ) (p : Spot) (basic : Basic) → IsValued basic → p.basic ≡ basic → p.sequence < length s →
    Answers Any (element_values (elements_from n p) s)
unfolding element_values elements_from Answers
elements_listed s zero p basic valued is within = tt
elements_listed s (suc n) p basic valued is within =
    given_meant (IsOf (length s) (ValueOf basic)) Any (fetch s p)
    (λ d. given_that (listed_value d) (λ a. given_that (element_values (elements_from n (record p { first = p.first + p.width })) s) (λ more. Gives (a ∷ more))))
    (fetch_meant s (length s) p basic valued is within)
    (λ d of. given_meant Any Any (listed_value d)
    (λ a. given_that (element_values (elements_from n (record p { first = p.first + p.width })) s) (λ more. Gives (a ∷ more)))
    (value_listed (length s) basic d valued of)
    (λ a any. given_meant Any Any (element_values (elements_from n (record p { first = p.first + p.width })) s) (λ more. Gives (a ∷ more))
    (elements_listed s n (record p { first = p.first + p.width }) basic valued is within) (λ more any. tt)))

pub values_listed : (s : Store) (sort : Sort) (d : Datum) → IsListed Output sort → IsOf (length s) sort d → Answers Any (values_of s d)
unfolding values_of listed_value given_that elements Answers
values_listed s sort d (formed.written_value basic typed.integers) (typed.integer z) = tt
values_listed s sort d (formed.written_value basic typed.logicals) (typed.logical b) = tt
values_listed s sort d (formed.written_value basic typed.texts) (typed.text cs) = tt
values_listed s sort d (formed.written_place basic valued) (typed.place p _ is within) = elements_listed s (p.extent / p.width) p basic valued is within

-- RECORDS. What writing comes to, with as many sequences as before
pub data IsWritten (count : ℕ) : Writing → Type 0 where
  it_wrote : (w : World) → length w.store ≡ count → IsWritten count (Wrote w)
  it_stopped : (number : ℤ) (w : World) → length w.store ≡ count → IsWritten count (StoppedBy number w)
  it_broke : (act : Act) → IsTrue (is_named act) → IsWritten count (Broken act)

pub written_if : (count : ℕ) (b : Bool) (one other : Writing) → IsWritten count one → IsWritten count other → IsWritten count (if b then one else other)
written_if count true one other is are = is
written_if count false one other is are = are

pub unit_written_well : (count : ℕ) (w : World) (r : Result Units UnitRefusal) → length w.store ≡ count → HasNumber r → IsWritten count (unit_written w r)
unfolding unit_written stopped_by
unit_written_well count w (Ok units) same (numbered.it_is_done _) = it_wrote (record w { units = units }) same
unit_written_well count w (Err refusal) same (numbered.it_is_refused _ number is) =
    subst (λ r. IsWritten count (stopped_by w r)) (sym is) (it_stopped number w same)

pub record_stored_well : (count : ℕ) (w : World) (r : Checked Store) → Answers (λ s. length s ≡ count) r → IsWritten count (record_stored w r)
unfolding record_stored Answers
record_stored_well count w (Gives s) same = it_wrote (record w { store = s }) same
record_stored_well count w (Fails act) is = it_broke act is

pub record_defined : (count : ℕ) (p : Spot) (k : ℕ) (line : Bytes) (w : World) → length w.store ≡ count → IsOf count (PlaceOf Character) (IsSpot p) →
    Answers (λ s. length s ≡ count) (define w.store (record_place p k) (IsText line))
unfolding record_place
record_defined count p k line w same (typed.place _ _ is within) =
    subst (λ n. Answers (λ s. length s ≡ n) (define w.store (record_place p k) (IsText line))) same
    (define_held w.store count Character (record_place p k) (IsText line) typed.texts
    (typed.place (record_place p k) Character is (subst (λ n. p.sequence < n) (sym same) within)) (typed.text line))

pub record_filled_well : (count : ℕ) (p : Spot) (k : ℕ) (line : Bytes) (w : World) → length w.store ≡ count → IsOf count (PlaceOf Character) (IsSpot p) →
    IsWritten count (record_filled p k line w)
unfolding record_filled
record_filled_well count p k line w same placed =
    written_if count (nat_le (record_count p) k) (StoppedBy end_of_file w)
    (if nat_lt p.width (length line) then StoppedBy too_long w else record_stored w (define w.store (record_place p k) (IsText line)))
    (it_stopped end_of_file w same)
    (written_if count (nat_lt p.width (length line)) (StoppedBy too_long w) (record_stored w (define w.store (record_place p k) (IsText line)))
    (it_stopped too_long w same) (record_stored_well count w (define w.store (record_place p k) (IsText line)) (record_defined count p k line w same placed)))

pub line_put : (count : ℕ) (medium : Medium) (k : ℕ) (line : Bytes) (w : World) → length w.store ≡ count → IsMedium count medium →
    IsWritten count (put_line medium k line w)
unfolding put_line
line_put count (External unit) k line w same (holding.on_unit _) =
    unit_written_well count w (write_unit unit line w.units) same (write_has_number unit line w.units)
line_put count (Internal p) k line w same (holding.in_file _ placed) = record_filled_well count p k line w same placed

pub then_written : (count : ℕ) (r : Writing) (go : World → Writing) → IsWritten count r → ((w : World) → length w.store ≡ count → IsWritten count (go w)) →
    IsWritten count (written_then r go)
unfolding written_then
then_written count (Wrote w) go (it_wrote _ same) next = next w same
then_written count (StoppedBy number w) go (it_stopped _ _ same) next = it_stopped number w same
then_written count (Broken act) go (it_broke _ is) next = it_broke act is

pub lines_put : (count : ℕ) (medium : Medium) (k : ℕ) (lines : List Bytes) (w : World) → length w.store ≡ count → IsMedium count medium →
    IsWritten count (put_lines medium k lines w)
unfolding put_lines
lines_put count medium k [] w same is = it_wrote w same
lines_put count medium k (line ∷ lines) w same is =
    then_written count (put_line medium k line w) (put_lines medium (suc k) lines) (line_put count medium k line w same is)
    (λ after kept. lines_put count medium (suc k) lines after kept is)

-- AFTER IT. Where the format goes no further, the transfer ends; else it goes on
pub halted_fares : (u : ProgramUnit) (n : ℕ) (way : Direction) (w : World) (t : Transfer) (halt : Halt) → IsLarge n w → IsTransfer u n way t →
    Fares u n way (halted_by w t halt)
unfolding halted_by is_named
halted_fares u n way w t (Number number) same is = transfer_fails u n way w (pos number) t same is
halted_fares u n way w t EndOfRecords same is = transfer_fails u n way w end_of_file t same is
halted_fares u n way w t OtherType same is = course.it_is_not_said WrongDescriptor refl

pub unless_halted_fares : (u : ProgramUnit) (n : ℕ) (way : Direction) (w : World) (t : Transfer) (halted : Option Halt) (next : Course) → IsLarge n w →
    IsTransfer u n way t → Fares u n way next → Fares u n way (unless_halted w t halted next)
unfolding unless_halted
unless_halted_fares u n way w t None next same is fares = fares
unless_halted_fares u n way w t (Some halt) next same is fares = halted_fares u n way w t halt same is

pub after_writing_fares : (u : ProgramUnit) (n : ℕ) (way : Direction) (t : Transfer) (halted : Option Halt) (r : Writing) (next : World → Course) →
    IsTransfer u n way t → IsWritten n r → ((after : World) → IsLarge n after → Fares u n way (next after)) → Fares u n way (after_writing t halted r next)
unfolding after_writing
after_writing_fares u n way t halted (Wrote after) next is (it_wrote _ same) fares =
    unless_halted_fares u n way after t halted (next after) same is (fares after same)
after_writing_fares u n way t halted (StoppedBy number after) next is (it_stopped _ _ same) fares = transfer_fails u n way after number t same is
after_writing_fares u n way t halted (Broken act) next is (it_broke _ named) fares = course.it_is_not_said act named

-- a transfer with other values and records is the same transfer
pub written_transfer : (u : ProgramUnit) (n : ℕ) (way : Direction) (t : Transfer) (values : List listed.ListedValue) (written : ℕ) → IsTransfer u n way t →
    IsTransfer u n way (record t { values = values; written = written })
written_transfer u n way t values written is =
    record { direction_is = is.direction_is; medium = is.medium; status = is.status; on_error = is.on_error; on_end = is.on_end; outside = is.outside }

-- what follows over any world as large, and any such transfer
abbrev pub FaresOn : ProgramUnit → ℕ → Direction → (World → Transfer → Course) → Type 0
FaresOn u n way next = (after : World) (longer : Transfer) → IsLarge n after → IsTransfer u n way longer → Fares u n way (next after longer)

-- records are put
pub put_then_fares : (u : ProgramUnit) (n : ℕ) (way : Direction) (w : World) (t : Transfer) (m : Made) (next : World → Transfer → Course) → IsLarge n w →
    IsTransfer u n way t → FaresOn u n way next → Fares u n way (put_then w t m next)
unfolding put_then records_put
put_then_fares u n way w t m next same is fares =
    after_writing_fares u n way t m.halted (put_lines t.medium t.written (drop t.written m.complete) w)
    (λ after. next after (record t { written = length m.complete })) is
    (lines_put n t.medium t.written (drop t.written m.complete) w same is.medium)
    (λ after large. fares after (record t { written = length m.complete }) large (written_transfer u n way t t.values (length m.complete) is))

pub values_put_fares : (u : ProgramUnit) (n : ℕ) (way : Direction) (w : World) (t : Transfer) (r : Checked (List listed.ListedValue)) → IsLarge n w →
    IsTransfer u n way t → Answers Any r → Fares u n way (values_put w t r)
unfolding values_put Answers
values_put_fares u n way w t (Gives values) same is any =
    put_then_fares u n way w (record t { values = t.values ++ values }) (made_by t.layout (record t { values = t.values ++ values }) false) going_on same
    (written_transfer u n way t (t.values ++ values) t.written is) (going_on_fares u n way)
values_put_fares u n way w t (Fails act) same is named = course.it_is_not_said act named

-- the elements of an item under a format
pub element_put_fares : (u : ProgramUnit) (n : ℕ) (way : Direction) (w : World) (t : Transfer) (r : Checked listed.ListedValue)
    (next : World → Transfer → Course) → IsLarge n w → IsTransfer u n way t → Answers Any r → FaresOn u n way next → Fares u n way (element_put w t r next)
unfolding element_put Answers
element_put_fares u n way w t (Gives value) next same is any fares =
    put_then_fares u n way w (record t { values = t.values ++ value ∷ [] }) (made_by t.layout (record t { values = t.values ++ value ∷ [] }) false) next same
    (written_transfer u n way t (t.values ++ value ∷ []) t.written is) fares
element_put_fares u n way w t (Fails act) next same is named fares = course.it_is_not_said act named

pub element_listed : (s : Store) (n : ℕ) (p : Spot) (basic : Basic) → IsValued basic → p.basic ≡ basic → p.sequence < n → length s ≡ n →
    Answers Any (given_that (fetch s p) listed_value)
element_listed s n p basic valued is within same =
    given_meant (IsOf (length s) (ValueOf basic)) Any (fetch s p) listed_value
    (fetch_meant s (length s) p basic valued is (subst (λ k. p.sequence < k) (sym same) within)) (λ d of. value_listed (length s) basic d valued of)

pub value_met_fares : (u : ProgramUnit) (n : ℕ) (way : Direction) (w : World) (t : Transfer) (value : Store → Checked listed.ListedValue)
    (next : World → Transfer → Course) → IsLarge n w → IsTransfer u n way t → ((s : Store) → length s ≡ n → Answers Any (value s)) → FaresOn u n way next →
    Fares u n way (value_met w t value next)
unfolding value_met
value_met_fares u n way w t value next same is any fares =
    put_then_fares u n way w t (made_before t) (λ ahead led. element_put ahead led (value ahead.store) next) same is
    (λ ahead led large kept. element_put_fares u n way ahead led (value ahead.store) next large kept (any ahead.store large) fares)

pub each_put_fares : (u : ProgramUnit) (n : ℕ) (way : Direction) (basic : Basic) → IsValued basic → (count : ℕ) (p : Spot) → p.basic ≡ basic → p.sequence < n →
    (w : World) → IsLarge n w → (t : Transfer) → IsTransfer u n way t → Fares u n way (each_put w t (elements_from count p))
unfolding each_put elements_from
each_put_fares u n way basic valued zero p based within w same t is = going_on_fares u n way w t same is
each_put_fares u n way basic valued (suc count) p based within w same t is =
    value_met_fares u n way w t (λ s. given_that (fetch s p) listed_value)
    (λ after longer. each_put after longer (elements_from count (record p { first = p.first + p.width }))) same is
    (λ s large. element_listed s n p basic valued based within large)
    (λ after longer large kept. each_put_fares u n way basic valued count (record p { first = p.first + p.width }) based within after large longer kept)

pub formatted_put_fares : (u : ProgramUnit) (n : ℕ) (way : Direction) (w : World) (t : Transfer) (sort : Sort) (d : Datum) → IsLarge n w → IsTransfer u n way t →
    IsListed Output sort → IsOf n sort d → Fares u n way (formatted_put w t d)
unfolding formatted_put elements
formatted_put_fares u n way w t sort d same is (formed.written_value basic typed.integers) (typed.integer z) =
    value_met_fares u n way w t (λ s. listed_value d) going_on same is (λ s large. value_listed n basic d typed.integers (typed.integer z)) (going_on_fares u n way)
formatted_put_fares u n way w t sort d same is (formed.written_value basic typed.logicals) (typed.logical b) =
    value_met_fares u n way w t (λ s. listed_value d) going_on same is (λ s large. value_listed n basic d typed.logicals (typed.logical b)) (going_on_fares u n way)
formatted_put_fares u n way w t sort d same is (formed.written_value basic typed.texts) (typed.text cs) =
    value_met_fares u n way w t (λ s. listed_value d) going_on same is (λ s large. value_listed n basic d typed.texts (typed.text cs)) (going_on_fares u n way)
formatted_put_fares u n way w t sort d same is (formed.written_place basic valued) (typed.place p _ based within) =
    each_put_fares u n way basic valued (p.extent / p.width) p based within w same t is

-- an item of output
pub item_written_fares : (u : ProgramUnit) (n : ℕ) (way : Direction) (w : World) (t : Transfer) (sort : Sort) (d : Datum) (layout : Layout) → IsLarge n w →
    IsTransfer u n way t → IsListed Output sort → IsOf n sort d → Fares u n way (item_written layout w t d)
unfolding item_written
item_written_fares u n way w t sort d Listed same is listed of =
    values_put_fares u n way w t (values_of w.store d) same is (values_listed w.store sort d listed (subst (λ k. IsOf k sort d) (sym same) of))
item_written_fares u n way w t sort d (Labelled label) same is listed of = formatted_put_fares u n way w t sort d same is listed of
item_written_fares u n way w t sort d Computed same is listed of = formatted_put_fares u n way w t sort d same is listed of
item_written_fares u n way w t sort d Unformatted same is listed of = formatted_put_fares u n way w t sort d same is listed of

pub output_ended_fares : (u : ProgramUnit) (n : ℕ) (way : Direction) (w : World) (t : Transfer) (m : Made) → IsLarge n w → IsTransfer u n way t →
    Fares u n way (output_ended w t m)
unfolding output_ended records_put
output_ended_fares u n way w t m same is =
    after_writing_fares u n way t m.halted (put_lines t.medium t.written (drop t.written m.complete) w) (λ after. ends_well after t.status) is
    (lines_put n t.medium t.written (drop t.written m.complete) w same is.medium) (λ after large. ends_well_fares u n way after t.status large is.status)
