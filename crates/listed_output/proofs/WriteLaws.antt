-- Lines that are written to a unit, one after the other.
use Rattle.std.proofs.Common.{◌≡◌, ℕ, ℤ, Bool, true, false, List, [], ◌∷◌, ◌++◌, Option, Some, None, refl, ap, sym, ◌∙◌, subst}
use Rattle.std.specs.Prelude.{Result, Ok, Err, IsErrOf, if◌then◌else◌}
use Rattle.std.specs.Ordering.{int_eq}
use Rattle.std.proofs.lemmas.Bool.Decides.{Decides-int_eq}
use Rattle.c_tree.specs.run_state.Units.{UnitState, Units, with_unit, with_record, unless_ended, write_at, write_unit}
use Rattle.run_state.specs.declared.refusals.UnitRefusal.{UnitRefusal}
use Rattle.run_state.specs.declared.refusals.UnitRefusal.TheVariants.{NotConnected, NotOffered, Taken, PastEnd, Failed}
use Rattle.c_tree.specs.TransferOutput.{write_all}
use Rattle.f2c_outside.specs.Table.{Row, Connects, OnUnit, WrittenTo}
use Rattle.f2c_outside.specs.Finishing.{OnDevice}
use Rattle.f2c_outside.specs.Meaning.{Tells, units_of, Means}
use Rattle.unit_answers.proofs.FailureLaws.{each-on}
use Rattle.unit_answers.proofs.AnswerLaws.{Agrees}
use Rattle.unit_answers.proofs.CallLaws.{fair-write, fair-agrees, fair-failed}
use Rattle.listed_output.specs.Writing.{StaysAt, StayedOn, WritesAs, FailsOn, Writes}
use Rattle.listed_output.proofs.RowLaws.{stays-stays, stays-fails, stays-there, stays-same}

abbrev pub then_write : ℤ → List (List ℕ) → Result Units UnitRefusal → Result Units UnitRefusal
then_write unit later found = elim found [ Ok changed ↦ write_all unit later changed | Err refusal ↦ Err refusal ]

both-by : (unit : ℤ) (later back : List (List ℕ)) → ((units : Units) → write_all unit (later ++ back) units ≡ then_write unit back (write_all unit later units)) →
    (found : Result Units UnitRefusal) → then_write unit (later ++ back) found ≡ then_write unit back (then_write unit later found)
both-by unit later back both (Ok changed) = both changed
both-by unit later back both (Err refusal) = refl

-- lines behind others
pub write-both : (unit : ℤ) (front back : List (List ℕ)) (units : Units) → write_all unit (front ++ back) units ≡ then_write unit back (write_all unit front units)
write-both unit [] back units = refl
write-both unit (line ∷ later) back units = both-by unit later back (write-both unit later back) (write_unit unit line units)

-- a unit that takes a record
record MayWrite (unit : ℤ) (units : Units) : Type 0 where
  state : UnitState
  is : units.connected unit ≡ Some state
  on : state.end_mark ≡ false

same_number : (unit : ℤ) → int_eq unit unit ≡ true
same_number unit = (Decides-int_eq unit unit).1 refl

one-written : (unit : ℤ) (line : List ℕ) (units : Units) (may : MayWrite unit units) → write_unit unit line units ≡ Ok (with_unit unit (Some (with_record line may.state)) units)
unfolding write_unit
one-written unit line units may =
    ap (λ s. write_at unit line s units) may.is ∙ ap (λ b. unless_ended b (with_unit unit (Some (with_record line may.state)) units)) may.on

written-state : (unit : ℤ) (line : List ℕ) (units : Units) (state : UnitState) → state.end_mark ≡ false → MayWrite unit (with_unit unit (Some (with_record line state)) units)
written-state unit line units state on = record {
  state = with_record line state;
  is = ap (λ b. if b then Some (with_record line state) else units.connected unit) (same_number unit);
  on = on;
}

record AllWritten (unit : ℤ) (lines : List (List ℕ)) (units : Units) : Type 0 where
  after : Units
  wrote : write_all unit lines units ≡ Ok after
  may : MayWrite unit after

-- a unit that takes a record takes all
all-written : (unit : ℤ) (lines : List (List ℕ)) (units : Units) → MayWrite unit units → AllWritten unit lines units
all-written unit [] units may = record { after = units; wrote = refl; may = may }
all-written unit (line ∷ later) units may =
    let more : AllWritten unit later (with_unit unit (Some (with_record line may.state)) units) =
    all-written unit later (with_unit unit (Some (with_record line may.state)) units) (written-state unit line units may.state may.on) in
    record { after = more.after; wrote = ap (then_write unit later) (one-written unit line units may) ∙ more.wrote; may = more.may }

-- a unit that took a record takes more
took-ended : (unit : ℤ) (line : List ℕ) (units after : Units) (state : UnitState) (ended : Bool) → state.end_mark ≡ ended →
    unless_ended ended (with_unit unit (Some (with_record line state)) units) ≡ Ok after → MayWrite unit after
took-ended unit line units after state true mark wrote = absurd (cc)
took-ended unit line units after state false mark wrote =
    let same : with_unit unit (Some (with_record line state)) units ≡ after = cc in subst (MayWrite unit) same (written-state unit line units state mark)

took-by : (unit : ℤ) (line : List ℕ) (units after : Units) (found : Option UnitState) → write_at unit line found units ≡ Ok after → MayWrite unit after
took-by unit line units after None wrote = absurd (cc)
took-by unit line units after (Some state) wrote = took-ended unit line units after state state.end_mark refl wrote

took : (unit : ℤ) (line : List ℕ) (units after : Units) → write_unit unit line units ≡ Ok after → MayWrite unit after
unfolding write_unit
took unit line units after wrote = took-by unit line units after (units.connected unit) wrote

took-more : (unit : ℤ) (later : List (List ℕ)) (units after : Units) → MayWrite unit units → write_all unit later units ≡ Ok after → MayWrite unit after
took-more unit later units after may wrote =
    let all : AllWritten unit later units = all-written unit later units may in
    let same : all.after ≡ after = cc in subst (MayWrite unit) same all.may

took-first : (unit : ℤ) (line : List ℕ) (later : List (List ℕ)) (units after : Units) (found : Result Units UnitRefusal) → write_unit unit line units ≡ found →
    then_write unit later found ≡ Ok after → MayWrite unit after
took-first unit line later units after (Ok changed) is wrote = took-more unit later changed after (took unit line units changed is) wrote
took-first unit line later units after (Err refusal) is wrote = absurd (cc)

-- where lines are written and a further one is refused, nothing was written
refused-first : (unit : ℤ) (front back : List (List ℕ)) (before after : Units) (refusal : UnitRefusal) → write_all unit front before ≡ Ok after →
    write_all unit back after ≡ Err refusal → after ≡ before
refused-first unit [] back before after refusal wrote refused = cc
refused-first unit (line ∷ later) back before after refusal wrote refused =
    let all : AllWritten unit back after = all-written unit back after (took-first unit line later before after (write_unit unit line before) refl wrote) in
    let clash : (let r : Result Units UnitRefusal = Ok all.after in r) ≡ Err refusal = sym all.wrote ∙ refused in absurd (cc)

refused-behind :
    (unit : ℤ) (front back : List (List ℕ)) (first middle last : Units) (refusal : UnitRefusal) → write_all unit front first ≡ Ok middle →
    (write_all unit back middle ≡ Err refusal) × (last ≡ middle) → (write_all unit (front ++ back) first ≡ Err refusal) × (last ≡ first)
refused-behind unit front back first middle last refusal wrote refused = (
  write-both unit front back first ∙ ap (then_write unit back) wrote ∙ refused.0,
  refused.1 ∙ refused-first unit front back first middle refusal wrote refused.0,
)

means-behind :
    (unit : ℤ) (front back : List (List ℕ)) (first middle last : Units) (result : Result (Unit {0}) UnitRefusal) → write_all unit front first ≡ Ok middle →
    WritesAs unit back middle last result → WritesAs unit (front ++ back) first last result
means-behind unit front back first middle last (Ok done) wrote more = write-both unit front back first ∙ ap (then_write unit back) wrote ∙ more
means-behind unit front back first middle last (Err Failed) wrote more = tt
means-behind unit front back first middle last (Err NotConnected) wrote more = refused-behind unit front back first middle last NotConnected wrote more
means-behind unit front back first middle last (Err NotOffered) wrote more = refused-behind unit front back first middle last NotOffered wrote more
means-behind unit front back first middle last (Err Taken) wrote more = refused-behind unit front back first middle last Taken wrote more
means-behind unit front back first middle last (Err PastEnd) wrote more = refused-behind unit front back first middle last PastEnd wrote more

devices-behind : (unit : ℤ) (x y z : List Row) (result : Result (Unit {0}) UnitRefusal) → StayedOn unit x y → FailsOn unit y z result → FailsOn unit x z result
devices-behind unit x y z (Ok done) first second = stays-stays unit x y z first second
devices-behind unit x y z (Err Failed) first second = stays-fails unit x y z first second
devices-behind unit x y z (Err NotConnected) first second = stays-stays unit x y z first second
devices-behind unit x y z (Err NotOffered) first second = stays-stays unit x y z first second
devices-behind unit x y z (Err Taken) first second = stays-stays unit x y z first second
devices-behind unit x y z (Err PastEnd) first second = stays-stays unit x y z first second

-- nothing is written
pub writes-nothing : (unit : ℤ) (rows : List Row) → Writes unit [] rows rows (Ok tt)
writes-nothing unit rows = record { tells = λ tells. tells; means = λ tells. refl; devices = stays-same unit rows }

-- lines are written behind others
pub writes-behind :
    (unit : ℤ) (front back : List (List ℕ)) (x y z : List Row) (result : Result (Unit {0}) UnitRefusal) → Writes unit front x y (Ok tt) → Writes unit back y z result →
    Writes unit (front ++ back) x z result
writes-behind unit front back x y z result first second = record {
  tells = λ tells. second.tells (first.tells tells);
  means = λ tells. means-behind unit front back (units_of x) (units_of y) (units_of z) result (first.means tells) (second.means (first.tells tells));
  devices = devices-behind unit x y z result first.devices second.devices;
}

one-line : (unit : ℤ) (bytes : List ℕ) (b a : List Row) (result : Result (Unit {0}) UnitRefusal) → Agrees result (write_unit unit bytes (units_of b)) b a →
    WritesAs unit (bytes ∷ []) (units_of b) (units_of a) result
one-line unit bytes b a (Ok done) agrees = ap (then_write unit []) agrees
one-line unit bytes b a (Err Failed) agrees = tt
one-line unit bytes b a (Err NotConnected) agrees = (ap (then_write unit []) agrees.0, ap units_of agrees.1)
one-line unit bytes b a (Err NotOffered) agrees = (ap (then_write unit []) agrees.0, ap units_of agrees.1)
one-line unit bytes b a (Err Taken) agrees = (ap (then_write unit []) agrees.0, ap units_of agrees.1)
one-line unit bytes b a (Err PastEnd) agrees = (ap (then_write unit []) agrees.0, ap units_of agrees.1)

stays-writing : (unit : ℤ) (bytes : List ℕ) (b a : List Row) (result : Result (Unit {0}) UnitRefusal) →
    OnUnit unit b a result (λ d m d' m'. WrittenTo d m d' m' bytes result) → (IsErrOf result Failed → ⊥) → StayedOn unit b a
stays-writing unit bytes b a result on no_fault =
    each-on unit (OnDevice (StaysAt unit)) (stays-there unit) b a result (λ d m d' m'. WrittenTo d m d' m' bytes result) on
    (λ d d' m m' z did. record {
      device' = d';
      is = ap (λ (mark : Bool). Connects unit d' mark z) did.mark;
      did = record { here = λ same. (fair-write bytes result).quiet d d' m m' did no_fault; elsewhere = λ other. absurd (other refl) };
    })

devices-of : (unit : ℤ) (bytes : List ℕ) (b a : List Row) (result : Result (Unit {0}) UnitRefusal) →
    OnUnit unit b a result (λ d m d' m'. WrittenTo d m d' m' bytes result) → FailsOn unit b a result
devices-of unit bytes b a (Ok done) on = stays-writing unit bytes b a (Ok done) on (λ wrong. cc)
devices-of unit bytes b a (Err Failed) on =
    fair-failed unit b a (Err Failed) (λ d m d' m'. WrittenTo d m d' m' bytes (let r : Result (Unit {0}) UnitRefusal = Err Failed in r)) (fair-write bytes (Err Failed)) on refl
devices-of unit bytes b a (Err NotConnected) on = stays-writing unit bytes b a (Err NotConnected) on (λ wrong. cc)
devices-of unit bytes b a (Err NotOffered) on = stays-writing unit bytes b a (Err NotOffered) on (λ wrong. cc)
devices-of unit bytes b a (Err Taken) on = stays-writing unit bytes b a (Err Taken) on (λ wrong. cc)
devices-of unit bytes b a (Err PastEnd) on = stays-writing unit bytes b a (Err PastEnd) on (λ wrong. cc)

-- one record
pub writes-one :
    (unit own : ℤ) (bytes : List ℕ) (b a : List Row) (result : Result (Unit {0}) UnitRefusal) → own ≡ unit → OnUnit own b a result (λ d m d' m'. WrittenTo d m d' m' bytes result) →
    (Tells b → Means result (write_unit own bytes (units_of b)) a) → Writes unit (bytes ∷ []) b a result
writes-one unit own bytes b a result same on means =
    subst (λ (number : ℤ). Writes number (bytes ∷ []) b a result) same
    (record {
      tells = λ tells. (means tells).tells;
      means = λ tells. one-line own bytes b a result
          (fair-agrees own b a result (λ d m d' m'. WrittenTo d m d' m' bytes result) (write_unit own bytes (units_of b)) (fair-write bytes result) on (means tells));
      devices = devices-of own bytes b a result on;
    })
