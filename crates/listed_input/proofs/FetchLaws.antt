-- What reading a record leaves of the records that come next.
use Rattle.std.proofs.Common.{◌≡◌, ℕ, zero, suc, ◌+◌, ◌≤◌, ◌<◌, ℤ, pos, negsuc, Bool, true, false, List, [], ◌∷◌, ◌++◌, length, take, drop, Option, Some, None, refl, ap, sym, ◌∙◌, subst, arith}
use Rattle.std.specs.Prelude.{Result, Ok, Err, IsErrOf, slice_get, nat_le, ◌||◌, if◌then◌else◌}
use Rattle.std.specs.Ordering.{int_eq}
use Rattle.std.proofs.lemmas.Bool.Decides.{Decides-int_eq, nat_tests}
use Rattle.c_tree.specs.run_state.Units.{UnitState, Units, Reading, with_unit, read_at, read_unit}
use Rattle.c_tree.specs.run_state.Units as states
use Rattle.c_tree.specs.Transfers.{Upcoming, records_upcoming, records_left, nothing_but, led_by, read_on}
use Rattle.run_state.specs.declared.refusals.UnitRefusal.{UnitRefusal}
use Rattle.run_state.specs.declared.refusals.UnitRefusal.TheVariants as refusal
use Rattle.f2c_outside.specs.declared.devices.Got.{Got}
use Rattle.f2c_outside.specs.declared.devices.Got.TheVariants as got
use Rattle.f2c_outside.specs.Device.{DeviceState}
use Rattle.f2c_outside.specs.Table.{Row, Offers, Connects, Closed, is_connected, AtUnit, OnUnit, ReadFrom}
use Rattle.f2c_outside.specs.Finishing.{OnDevice}
use Rattle.f2c_outside.specs.Meaning.{Tells, unit_of, connected_in, units_of, MeansReading}
use Rattle.unit_answers.specs.Failing.{Quiet, NoneFailed}
use Rattle.unit_answers.proofs.FailureLaws.{each-on, on-there, quiet-same, not-raised, failed-on}
use Rattle.listed_output.specs.Writing.{StaysAt, StayedOn}
use Rattle.listed_output.proofs.RowLaws.{stays-there}
use Rattle.listed_input.specs.declared.records.NextRecord.{NextRecord}
use Rattle.listed_input.specs.Fetching.{coming, before_others, position_of, FetchesAs, FetchesFrom, GoesFurther, IsWithin, fetched_by, Fetches}

drop-next : (xs : List (List ℕ)) (i : ℕ) (x : List ℕ) → slice_get xs i ≡ Some x → drop i xs ≡ x ∷ drop (suc i) xs
drop-next [] i x is = absurd (cc)
drop-next (first ∷ later) zero x is = let here : first ≡ x = cc in ap (λ (one : List ℕ). one ∷ later) here
drop-next (first ∷ later) (suc i) x is = drop-next later i x is

drop-there : (xs : List (List ℕ)) (i : ℕ) (x : List ℕ) → slice_get xs i ≡ Some x → drop i xs ≡ x ∷ drop (i + 1) xs
drop-there xs i x is = drop-next xs i x is ∙ ap (λ (n : ℕ). x ∷ drop n xs) (let next : suc i ≡ i + 1 = omega arith in next)

drop-none : (xs : List (List ℕ)) (i : ℕ) → slice_get xs i ≡ None → drop i xs ≡ []
drop-none [] zero is = refl
drop-none [] (suc i) is = refl
drop-none (first ∷ later) zero is = absurd (cc)
drop-none (first ∷ later) (suc i) is = drop-none later i is

same_number : (unit : ℤ) → int_eq unit unit ≡ true
same_number unit = (Decides-int_eq unit unit).1 refl

-- the unit behind a record that was found
left-behind : (unit : ℤ) (units : Units) (state : UnitState) (line : List ℕ) (found : Option (List ℕ)) → found ≡ Some line →
    records_left ((with_unit unit (Some (states.behind found state)) units).connected unit) ≡ drop (state.position + 1) state.records
left-behind unit units state line found is =
    ap (λ (same : Bool). records_left (if same then Some (states.behind found state) else units.connected unit)) (same_number unit)
    ∙ ap (λ (one : Option (List ℕ)). records_left (Some (states.behind one state))) is

line-left : (unit : ℤ) (units after : Units) (line : List ℕ) (found : Option UnitState) →
    read_at unit found units ≡ Ok (record { found = Some line; after = after }) → records_left found ≡ line ∷ records_left (after.connected unit)
line-left unit units after line None is = absurd (cc)
line-left unit units after line (Some state) is =
    let same : (let r : Reading = record { found = slice_get state.records state.position; after = with_unit unit (Some (states.behind (slice_get state.records state.position) state)) units } in r)
    ≡ record { found = Some line; after = after } = cc in
    let there : slice_get state.records state.position ≡ Some line = ap (λ (r : Reading). r.found) same in
    drop-there state.records state.position line there
    ∙ ap (λ (rest : List (List ℕ)). line ∷ rest) (sym (left-behind unit units state line (slice_get state.records state.position) there))
    ∙ ap (λ (r : Reading). line ∷ records_left (r.after.connected unit)) same

none-left : (unit : ℤ) (units after : Units) (found : Option UnitState) → read_at unit found units ≡ Ok (record { found = None; after = after }) → records_left found ≡ []
none-left unit units after None is = absurd (cc)
none-left unit units after (Some state) is =
    let same : (let r : Reading = record { found = slice_get state.records state.position; after = with_unit unit (Some (states.behind (slice_get state.records state.position) state)) units } in r)
    ≡ record { found = None; after = after } = cc in
    drop-none state.records state.position (ap (λ (r : Reading). r.found) same)

missing-left : (unit : ℤ) (units : Units) (found : Option UnitState) → read_at unit found units ≡ Err refusal.NotConnected → records_left found ≡ []
missing-left unit units None is = refl
missing-left unit units (Some state) is = absurd (cc)

read-on : (unit : ℤ) (units : Units) (reading : Reading) → read_unit unit units ≡ Ok reading → reading.after ≡ read_on 1 unit units
read-on unit units reading is =
    sym (ap (λ (r : Result Reading UnitRefusal). elim r [ Ok one ↦ one.after | Err why ↦ units ]) is)

fits-short : (line : List ℕ) (later : Upcoming) → length line ≤ 1024 → led_by line later ≡ before_others line later
fits-short line later short =
    ap (λ (fits : Bool). if fits then before_others line later else nothing_but (Ok (pos 5)))
    (let is : nat_le (length line) 1024 ≡ true = grind (arith, nat_tests) in is)

fits-not : (line : List ℕ) (later : Upcoming) → 1024 < length line → led_by line later ≡ nothing_but (Ok (pos 5))
fits-not line later long =
    ap (λ (fits : Bool). if fits then before_others line later else nothing_but (Ok (pos 5)))
    (let is : nat_le (length line) 1024 ≡ false = grind (arith, nat_tests) in is)

coming-line : (unit : ℤ) (units after : Units) (line : List ℕ) → read_unit unit units ≡ Ok (record { found = Some line; after = after }) →
    coming unit units ≡ led_by line (coming unit after)
unfolding read_unit
coming-line unit units after line is = ap records_upcoming (line-left unit units after line (units.connected unit) is)

coming-end : (unit : ℤ) (units after : Units) → read_unit unit units ≡ Ok (record { found = None; after = after }) → coming unit units ≡ nothing_but (Ok (negsuc 0))
unfolding read_unit
coming-end unit units after is = ap records_upcoming (none-left unit units after (units.connected unit) is)

coming-missing : (unit : ℤ) (units : Units) → read_unit unit units ≡ Err refusal.NotConnected → coming unit units ≡ nothing_but (Ok (negsuc 0))
unfolding read_unit
coming-missing unit units is = ap records_upcoming (missing-left unit units (units.connected unit) is)

-- ## What the call leaves

-- a line of 1,024 bytes was read into
abbrev Reads : ℤ → List Row → List Row → List ℕ → List ℕ → Result Got UnitRefusal → Type 0
Reads unit b a old new result = OnUnit unit b a result (λ d m d' m'. ReadFrom d m d' m' old new result)

front : (line rest : List ℕ) (used : ℕ) → length line ≡ used → take used (line ++ rest) ≡ line
front line rest used is = subst (λ (n : ℕ). take n (line ++ rest) ≡ line) is (by line)
  where
    by : (one : List ℕ) → take (length one) (one ++ rest) ≡ one
    by [] = refl
    by (c ∷ cs) = ap (λ (more : List ℕ). c ∷ more) (by cs)

means-fetched : (unit : ℤ) (b a : List Row) (old new : List ℕ) (result : Result Got UnitRefusal) → length old ≡ 1024 → length new ≡ 1024 → IsWithin new (fetched_by result) →
    Reads unit b a old new result → MeansReading result (read_unit unit (units_of b)) a old new →
    FetchesAs unit new (units_of b) (units_of a) (fetched_by result)
means-fetched unit b a old new (Ok (got.Line used)) size size' within on means =
    let reads = means.done in
    let short : length reads.line ≤ 1024 = let same : length reads.line ≡ used = reads.holds.0 in let fits : used ≤ length new = within in omega arith in (
      coming-line unit (units_of b) (units_of a) reads.line reads.is
          ∙ fits-short reads.line (coming unit (units_of a)) short
          ∙ ap (λ (line : List ℕ). before_others line (coming unit (units_of a)))
          (sym (ap (take used) reads.holds.1 ∙ front reads.line (drop used old) used reads.holds.0)),
      read-on unit (units_of b) (record { found = Some reads.line; after = units_of a }) reads.is,
    )
means-fetched unit b a old new (Ok (got.Long size)) size_old size' within on means =
    let reads = means.done in
    let long : 1024 < length reads.line = let same : length reads.line ≡ size = reads.holds.0 in let more : length old < size = reads.holds.1 in omega arith in (
      coming-line unit (units_of b) (units_of a) reads.line reads.is ∙ fits-not reads.line (coming unit (units_of a)) long,
      read-on unit (units_of b) (record { found = Some reads.line; after = units_of a }) reads.is,
    )
means-fetched unit b a old new (Ok got.End) size size' within on means = (
  coming-end unit (units_of b) (units_of a) means.done,
  read-on unit (units_of b) (record { found = None; after = units_of a }) means.done,
)
means-fetched unit b a old new (Ok got.Failed) size size' within on means = tt
means-fetched unit b a old new (Err refusal.NotConnected) size size' within on means = (
  coming-missing unit (units_of b) (means.missing refl),
  ap units_of (on.missing (on.refused.0 refl))
      ∙ sym (ap (λ (r : Result Reading UnitRefusal). elim r [ Ok one ↦ one.after | Err why ↦ units_of b ]) (means.missing refl)),
)
means-fetched unit b a old new (Err refusal.NotOffered) size size' within on means = tt
means-fetched unit b a old new (Err refusal.Taken) size size' within on means = tt
means-fetched unit b a old new (Err refusal.PastEnd) size size' within on means = tt
means-fetched unit b a old new (Err refusal.Failed) size size' within on means = tt

-- a unit that was read is connected
read-there : (unit : ℤ) (b a : List Row) (old new : List ℕ) (result : Result Got UnitRefusal) → Reads unit b a old new result → (IsErrOf result refusal.NotConnected → ⊥) →
    AtUnit unit b a (λ d m d' m'. ReadFrom d m d' m' old new result)
read-there unit b a old new result on there = on.found (on-there unit b a result (λ d m d' m'. ReadFrom d m d' m' old new result) on there)

-- where a unit stands whose row is known
connected-at : (unit : ℤ) (front back : List Row) (device : DeviceState) (m z : Bool) → is_connected unit (front ++ back) ≡ false →
    connected_in (front ++ Connects unit device m z ∷ back) unit ≡ Some (unit_of device m z)
connected-at unit [] back device m z alone =
    ap (λ (b : Bool). if b then Some (unit_of device m z) else connected_in back unit) (same_number unit)
connected-at unit (Offers name d ∷ front) back device m z alone = connected-at unit front back device m z alone
connected-at unit (Closed ∷ front) back device m z alone = connected-at unit front back device m z alone
connected-at unit (Connects own d n w ∷ front) back device m z alone = by (int_eq own unit) alone (connected-at unit front back device m z)
  where
    by : (here : Bool) → (here || is_connected unit (front ++ back)) ≡ false →
        (is_connected unit (front ++ back) ≡ false → connected_in (front ++ Connects unit device m z ∷ back) unit ≡ Some (unit_of device m z)) →
        (if here then Some (unit_of d n w) else connected_in (front ++ Connects unit device m z ∷ back) unit) ≡ Some (unit_of device m z)
    by true none later = absurd (cc)
    by false none later = later none

position-at : (unit : ℤ) (rows front back : List Row) (device : DeviceState) (m z : Bool) → is_connected unit (front ++ back) ≡ false →
    rows ≡ front ++ Connects unit device m z ∷ back → position_of unit (units_of rows) ≡ device.position
position-at unit rows front back device m z alone is =
    ap (λ (one : List Row). position_of unit (units_of one)) is
    ∙ ap (λ (found : Option UnitState). elim found [ None ↦ 0 | Some state ↦ state.position ]) (connected-at unit front back device m z alone)

further-reading : (unit : ℤ) (used : ℕ) (b a : List Row) (old new : List ℕ) → Reads unit b a old new (Ok (got.Line used)) →
    position_of unit (units_of a) ≡ suc (position_of unit (units_of b))
further-reading unit used b a old new on =
    let at = read-there unit b a old new (Ok (got.Line used)) on (λ wrong. cc) in
    let next : at.device'.position ≡ at.device.position + 1 = at.did.read.position in
    position-at unit a at.front at.back at.device' at.end_mark' at.zero_blanks at.alone at.now
    ∙ (let one : at.device'.position ≡ suc at.device.position = omega (arith, next) in one)
    ∙ ap suc (sym (position-at unit b at.front at.back at.device at.end_mark at.zero_blanks at.alone at.was))

further-fetched : (unit : ℤ) (b a : List Row) (old new : List ℕ) (result : Result Got UnitRefusal) → Reads unit b a old new result → GoesFurther unit b a (fetched_by result)
further-fetched unit b a old new (Ok (got.Line used)) on = further-reading unit used b a old new on
further-fetched unit b a old new (Ok (got.Long size)) on = tt
further-fetched unit b a old new (Ok got.End) on = tt
further-fetched unit b a old new (Ok got.Failed) on = tt
further-fetched unit b a old new (Err refusal.NotConnected) on = tt
further-fetched unit b a old new (Err refusal.NotOffered) on = tt
further-fetched unit b a old new (Err refusal.Taken) on = tt
further-fetched unit b a old new (Err refusal.PastEnd) on = tt
further-fetched unit b a old new (Err refusal.Failed) on = tt

stays-reading : (unit : ℤ) (used : ℕ) (b a : List Row) (old new : List ℕ) → Reads unit b a old new (Ok (got.Line used)) → StayedOn unit b a
stays-reading unit used b a old new on =
    each-on unit (OnDevice (StaysAt unit)) (stays-there unit) b a (let r : Result Got UnitRefusal = Ok (got.Line used) in r)
    (λ d m d' m'. ReadFrom d m d' m' old new (Ok (got.Line used))) on
    (λ d d' m m' z did. record {
      device' = d';
      is = ap (λ (mark : Bool). Connects unit d' mark z) did.mark;
      did = record {
        here = λ same. not-raised d.faults d'.faults (IsErrOf (let r : Result Got UnitRefusal = Ok (got.Line used) in r) refusal.Failed) did.called.cause (λ wrong. cc);
        elsewhere = λ other. absurd (other refl);
      };
    })

quiet-reading : (unit : ℤ) (b a : List Row) (old new : List ℕ) (result : Result Got UnitRefusal) → Reads unit b a old new result → (IsErrOf result refusal.Failed → ⊥) → NoneFailed b a
quiet-reading unit b a old new result on no_fault =
    each-on unit Quiet (λ row none. quiet-same row) b a result (λ d m d' m'. ReadFrom d m d' m' old new result) on
    (λ d d' m m' z did. not-raised d.faults d'.faults (IsErrOf result refusal.Failed) did.called.cause no_fault)

devices-fetched : (unit : ℤ) (b a : List Row) (old new : List ℕ) (result : Result Got UnitRefusal) → Reads unit b a old new result → FetchesFrom unit b a (fetched_by result)
devices-fetched unit b a old new (Ok (got.Line used)) on = stays-reading unit used b a old new on
devices-fetched unit b a old new (Ok (got.Long size)) on = quiet-reading unit b a old new (Ok (got.Long size)) on (λ wrong. cc)
devices-fetched unit b a old new (Ok got.End) on = quiet-reading unit b a old new (Ok got.End) on (λ wrong. cc)
devices-fetched unit b a old new (Ok got.Failed) on =
    let at = read-there unit b a old new (Ok got.Failed) on (λ wrong. cc) in absurd (at.did.never refl)
devices-fetched unit b a old new (Err refusal.NotConnected) on = quiet-reading unit b a old new (Err refusal.NotConnected) on (λ wrong. cc)
devices-fetched unit b a old new (Err refusal.NotOffered) on =
    let at = read-there unit b a old new (Err refusal.NotOffered) on (λ wrong. cc) in absurd (at.did.refused)
devices-fetched unit b a old new (Err refusal.Taken) on =
    let at = read-there unit b a old new (Err refusal.Taken) on (λ wrong. cc) in absurd (at.did.refused)
devices-fetched unit b a old new (Err refusal.PastEnd) on =
    let at = read-there unit b a old new (Err refusal.PastEnd) on (λ wrong. cc) in absurd (at.did.refused)
devices-fetched unit b a old new (Err refusal.Failed) on =
    failed-on unit b a (let r : Result Got UnitRefusal = Err refusal.Failed in r) (λ d m d' m'. ReadFrom d m d' m' old new (Err refusal.Failed)) on (λ wrong. cc)
    (λ d d' m m' did. (did.called.cause.failed refl, did.mark))

within-fetched : (unit : ℤ) (b a : List Row) (old new : List ℕ) (result : Result Got UnitRefusal) → length old ≡ 1024 → length new ≡ 1024 → Reads unit b a old new result → IsWithin new (fetched_by result)
within-fetched unit b a old new (Ok (got.Line used)) size size' on =
    let at = read-there unit b a old new (Ok (got.Line used)) on (λ wrong. cc) in
    let fits : used ≤ length old = at.did.read.fits in omega arith
within-fetched unit b a old new (Ok (got.Long size)) size_old size' on = tt
within-fetched unit b a old new (Ok got.End) size size' on = tt
within-fetched unit b a old new (Ok got.Failed) size size' on = tt
within-fetched unit b a old new (Err refusal.NotConnected) size size' on = tt
within-fetched unit b a old new (Err refusal.NotOffered) size size' on = tt
within-fetched unit b a old new (Err refusal.Taken) size size' on = tt
within-fetched unit b a old new (Err refusal.PastEnd) size size' on = tt
within-fetched unit b a old new (Err refusal.Failed) size size' on = tt

pub fetches : (unit own : ℤ) (b a : List Row) (old new : List ℕ) (answer : Result Got UnitRefusal) (result : NextRecord) → own ≡ unit → length old ≡ 1024 → length new ≡ 1024 →
    result ≡ fetched_by answer → OnUnit own b a answer (λ d m d' m'. ReadFrom d m d' m' old new answer) →
    (Tells b → MeansReading answer (read_unit own (units_of b)) a old new) → Fetches unit new b a result
fetches unit own b a old new answer result same size size' is on means =
    subst (λ (one : NextRecord). Fetches unit new b a one) (sym is)
    (subst (λ (number : ℤ). Fetches number new b a (fetched_by answer)) same
    (record {
      tells = λ tells. (means tells).tells;
      means = λ tells. means-fetched own b a old new answer size size' (within-fetched own b a old new answer size size' on) on (means tells);
      devices = devices-fetched own b a old new answer on;
      further = further-fetched own b a old new answer on;
      within = within-fetched own b a old new answer size size' on;
    }))
