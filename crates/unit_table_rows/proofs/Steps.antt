-- What one call of a unit table does to a unit whose state is known, from the clauses of the call alone.
use Rattle.std.proofs.Common.{◌≡◌, ℕ, ◌+◌, ◌≤◌, ◌<◌, ℤ, Bool, true, false, List, [], ◌∷◌, ◌++◌, length, take, drop, Option, Some, None, refl, ap, sym, ◌∙◌, subst, arith}
use Rattle.std.specs.Prelude.{Result, Ok, Err, IsErrOf, IsOk, OnErr, slice_get}
use Rattle.std.specs.Ordering.{int_eq}
use Rattle.std.proofs.lemmas.Bool.Decides.{Decides-int_eq}
use Rattle.f2c_outside.specs.Device.{DeviceState}
use Rattle.f2c_outside.specs.Table.{Row, Connects, Offers, AtUnit, OnUnit, ReadFrom, WrittenTo, EndedOn, is_connected, at_unit}
use Rattle.f2c_outside.specs.Meaning.{Tells, Means, MeansReading, MeansClosing, ReadsLine, units_of, unit_of, connected_in}
use Rattle.f2c_outside.proofs.TableLaws.{none-front}
use Rattle.f2c_outside.proofs.MeaningLaws.{chosen-true, unit-there, connected-none}
use Rattle.f2c_outside.specs.declared.devices.Got.{Got}
use Rattle.f2c_outside.specs.declared.devices.Got.TheVariants as got
use Rattle.f2c_outside.specs.declared.unit_table.Closed as declared
use Rattle.run_state.specs.Units.{UnitState, Units, Reading, Closing, with_unit, with_record, unless_ended, one_back, behind, read_at, write_at, back_at, rewind_at, end_at, close_at, read_unit, write_unit, back_unit, rewind_unit, end_unit, close_unit}
use Rattle.run_state.specs.declared.refusals.UnitRefusal.{UnitRefusal}
use Rattle.run_state.specs.declared.refusals.UnitRefusal.TheVariants.{NotConnected, PastEnd}
use Rattle.f2c_outside.specs.Table.{OpenedUnit}
use Rattle.f2c_outside.specs.Meaning.{MeansOpening}
use Rattle.f2c_outside.specs.Tape.{tape_state, empty_tape}
use Rattle.run_state.specs.Units.{Offered, Picked, pick, connect_file, open_at, open_unit}
use Rattle.run_state.specs.declared.refusals.UnitRefusal.TheVariants.{NotOffered, Taken}
use Rattle.unit_table_rows.specs.Ends.{Has, HasDrawer, the_unit, at_record, two_files}

ok-same : {A E : Type 0} {x y : A} → (let r : Result A E = Ok x in r) ≡ Ok y → x ≡ y
ok-same is = cc

some-same : {A : Type 0} {x y : A} → (let o : Option A = Some x in o) ≡ Some y → x ≡ y
some-same is = cc

-- the unit has another state
has-changed :
    (unit : ℤ) (state : Option UnitState) (b a : List Row)
    → Tells a
    → units_of a ≡ with_unit unit state (units_of b)
    → Has a unit state
has-changed unit state b a tells is =
    record {
      tells = tells;
      is =
          ap (λ (u : Units). u.connected unit) is
          ∙ chosen-true (int_eq unit unit) state ((units_of b).connected unit) ((Decides-int_eq unit unit).1 refl);
    }

-- a record was written
pub written :
    {T : Type 0} (x : T) (unit : ℤ) (bytes : List ℕ) (s : UnitState) (b a : List Row)
    → (Tells b → Means (let r : Result T UnitRefusal = Ok x in r) (write_unit unit bytes (units_of b)) a)
    → Has b unit (Some s)
    → s.end_mark ≡ false
    → Has a unit (Some (with_record bytes s))
unfolding write_unit
written {T = T} x unit bytes s b a means has free =
    let m : Means (let r : Result T UnitRefusal = Ok x in r) (write_at unit bytes ((units_of b).connected unit) (units_of b)) a =
    means has.tells
    in has-changed unit (Some (with_record bytes s)) b a m.tells
    (ok-same
    (sym m.done
    ∙ ap (λ (o : Option UnitState). write_at unit bytes o (units_of b)) has.is
    ∙ ap (λ (mark : Bool). unless_ended mark (with_unit unit (Some (with_record bytes s)) (units_of b))) free))

-- the unit stands before the first record
pub rewound :
    {T : Type 0} (x : T) (unit : ℤ) (s : UnitState) (b a : List Row)
    → (Tells b → Means (let r : Result T UnitRefusal = Ok x in r) (rewind_unit unit (units_of b)) a)
    → Has b unit (Some s)
    → Has a unit (Some (record s { position = 0; end_mark = false }))
unfolding rewind_unit
rewound {T = T} x unit s b a means has =
    let m : Means (let r : Result T UnitRefusal = Ok x in r) (rewind_at unit ((units_of b).connected unit) (units_of b)) a =
    means has.tells
    in has-changed unit (Some (record s { position = 0; end_mark = false })) b a m.tells
    (ok-same (sym m.done ∙ ap (λ (o : Option UnitState). rewind_at unit o (units_of b)) has.is))

-- the unit went back
pub went-back :
    {T : Type 0} (x : T) (unit : ℤ) (s : UnitState) (b a : List Row)
    → (Tells b → Means (let r : Result T UnitRefusal = Ok x in r) (back_unit unit (units_of b)) a)
    → Has b unit (Some s)
    → Has a unit (Some (one_back s.end_mark s))
unfolding back_unit
went-back {T = T} x unit s b a means has =
    let m : Means (let r : Result T UnitRefusal = Ok x in r) (back_at unit ((units_of b).connected unit) (units_of b)) a =
    means has.tells
    in has-changed unit (Some (one_back s.end_mark s)) b a m.tells
    (ok-same (sym m.done ∙ ap (λ (o : Option UnitState). back_at unit o (units_of b)) has.is))

-- the endfile record was written
pub ended :
    {T : Type 0} (x : T) (unit : ℤ) (s : UnitState) (b a : List Row)
    → (Tells b → Means (let r : Result T UnitRefusal = Ok x in r) (end_unit unit (units_of b)) a)
    → Has b unit (Some s)
    → s.end_mark ≡ false
    → Has a unit (Some (record s { records = take s.position s.records; end_mark = true }))
unfolding end_unit
ended {T = T} x unit s b a means has free =
    let m : Means (let r : Result T UnitRefusal = Ok x in r) (end_at unit ((units_of b).connected unit) (units_of b)) a =
    means has.tells
    in let state : Option UnitState = Some (record s { records = take s.position s.records; end_mark = true })
    in has-changed unit state b a m.tells
    (ok-same
    (sym m.done
    ∙ ap (λ (o : Option UnitState). end_at unit o (units_of b)) has.is
    ∙ ap (λ (mark : Bool). unless_ended mark (with_unit unit state (units_of b))) free))

-- the unit was closed, and this many records were counted
pub record WasClosed (unit : ℤ) (answer : ℕ) (records : List (List ℕ)) (a : List Row) : Type 0 where
  pub count : answer ≡ length records
  pub none : Has a unit None

pub closed :
    (x : declared.Closed) (unit : ℤ) (s : UnitState) (b a : List Row)
    → (Tells b → MeansClosing (Ok x) (close_unit unit (units_of b)) a)
    → Has b unit (Some s)
    → WasClosed unit x.records s.records a
unfolding close_unit
closed x unit s b a means has =
    let m : MeansClosing (Ok x) (close_at unit ((units_of b).connected unit) (units_of b)) a = means has.tells
    in let c : Closing = record { count = x.records; after = units_of a }
    in let d : Closing = record { count = length s.records; after = with_unit unit None (units_of b) }
    in let same : c ≡ d =
    ok-same (sym m.done ∙ ap (λ (o : Option UnitState). close_at unit o (units_of b)) has.is)
    in record {
      count = ap (λ (k : Closing). k.count) same;
      none = has-changed unit None b a m.tells (ap (λ (k : Closing). k.after) same);
    }

-- a read that was answered did not fail
pub never-failed :
    (unit : ℤ) (b a : List Row) (old new : List ℕ)
    → OnUnit unit b a (let r : Result Got UnitRefusal = Ok got.Failed in r) (λ d m d' m'. ReadFrom d m d' m' old new (Ok got.Failed))
    → ⊥
never-failed unit b a old new on = by-test (is_connected unit b) refl
  where
    ok-err : (let r : Result Got UnitRefusal = Ok got.Failed in r) ≡ Err NotConnected → ⊥
    ok-err is = cc

    by-test : (connected : Bool) → is_connected unit b ≡ connected → ⊥
    by-test true is = (on.found is).did.never refl
    by-test false is = ok-err (on.refused.1 is)

-- a record was found, and fits
pub record FoundLine (answer : Got) (line : List ℕ) (unit : ℤ) (s : UnitState) (a : List Row) (old new : List ℕ) : Type 0 where
  pub is : answer ≡ got.Line (length line)
  pub bytes : new ≡ line ++ drop (length line) old
  pub has : Has a unit (Some (record s { position = s.position + 1 }))

reading-is :
    (unit : ℤ) (found : Option (List ℕ)) (s : UnitState) (units : Units)
    → units.connected unit ≡ Some s
    → slice_get s.records s.position ≡ found
    → read_unit unit units ≡ Ok (record { found = found; after = with_unit unit (Some (behind found s)) units })
unfolding read_unit
reading-is unit found s units is at =
    ap (λ (o : Option UnitState). read_at unit o units) is
    ∙ ap
    (λ (f : Option (List ℕ)).
    let r : Reading = record { found = f; after = with_unit unit (Some (behind f s)) units } in
    let answer : Result Reading UnitRefusal = Ok r in answer) at

found-same :
    (x : Result Reading UnitRefusal) (r t : Reading) → x ≡ Ok r → x ≡ Ok t → (r.found ≡ t.found) × (r.after ≡ t.after)
found-same x r t p q =
    let same : r ≡ t = ok-same (sym p ∙ q)
    in (ap (λ (k : Reading). k.found) same, ap (λ (k : Reading). k.after) same)

pub found-line :
    (answer : Got) (line : List ℕ) (unit : ℤ) (s : UnitState) (b a : List Row) (old new : List ℕ)
    → (Tells b → MeansReading (Ok answer) (read_unit unit (units_of b)) a old new)
    → OnUnit unit b a (let r : Result Got UnitRefusal = Ok answer in r) (λ d m d' m'. ReadFrom d m d' m' old new (Ok answer))
    → Has b unit (Some s)
    → slice_get s.records s.position ≡ Some line
    → length line ≤ length old
    → FoundLine answer line unit s a old new
found-line (got.Line n) line unit s b a old new means on has at fits =
    let m : MeansReading (Ok (got.Line n)) (read_unit unit (units_of b)) a old new = means has.tells
    in let d : ReadsLine (read_unit unit (units_of b)) (units_of a) (λ l. (length l ≡ n) × (new ≡ l ++ drop n old)) = m.done
    in let same : (Some d.line ≡ Some line) × (units_of a ≡ with_unit unit (Some (behind (Some line) s)) (units_of b)) =
    found-same (read_unit unit (units_of b)) (record { found = Some d.line; after = units_of a })
    (record { found = Some line; after = with_unit unit (Some (behind (Some line) s)) (units_of b) }) d.is
    (reading-is unit (Some line) s (units_of b) has.is at)
    in let line-is : d.line ≡ line = some-same same.0
    in let count : n ≡ length line = sym d.holds.0 ∙ ap length line-is
    in record {
      is = ap got.Line count;
      bytes =
          d.holds.1 ∙ ap (λ (l : List ℕ). l ++ drop n old) line-is ∙ ap (λ (k : ℕ). line ++ drop k old) count;
      has = has-changed unit (Some (behind (Some line) s)) b a m.tells same.1;
    }
found-line (got.Long n) line unit s b a old new means on has at fits =
    let m : MeansReading (Ok (got.Long n)) (read_unit unit (units_of b)) a old new = means has.tells
    in let d : ReadsLine (read_unit unit (units_of b)) (units_of a) (λ l. (length l ≡ n) × (length old < n)) = m.done
    in let same : (Some d.line ≡ Some line) × (units_of a ≡ with_unit unit (Some (behind (Some line) s)) (units_of b)) =
    found-same (read_unit unit (units_of b)) (record { found = Some d.line; after = units_of a })
    (record { found = Some line; after = with_unit unit (Some (behind (Some line) s)) (units_of b) }) d.is
    (reading-is unit (Some line) s (units_of b) has.is at)
    in let count : n ≡ length line = sym d.holds.0 ∙ ap length (some-same same.0)
    in let over : length old < n = d.holds.1
    in absurd (omega arith)
found-line got.End line unit s b a old new means on has at fits =
    let m : MeansReading (Ok got.End) (read_unit unit (units_of b)) a old new = means has.tells
    in let same : (None ≡ Some line) × (units_of a ≡ with_unit unit (Some (behind (Some line) s)) (units_of b)) =
    found-same (read_unit unit (units_of b)) (record { found = None; after = units_of a })
    (record { found = Some line; after = with_unit unit (Some (behind (Some line) s)) (units_of b) }) m.done
    (reading-is unit (Some line) s (units_of b) has.is at)
    in let wrong : None ≡ Some line = same.0 in absurd (cc)
found-line got.Failed line unit s b a old new means on has at fits = absurd (never-failed unit b a old new on)

-- the row of a unit whose state is known
record Row-of (unit : ℤ) (s : UnitState) (b a : List Row) (R : DeviceState → Bool → DeviceState → Bool → Type 0) : Type 0 where
  at : AtUnit unit b a R
  mark : at.end_mark ≡ s.end_mark

row-of :
    {T : Type 0} (unit : ℤ) (s : UnitState) (b a : List Row) (result : Result T UnitRefusal) (R : DeviceState → Bool → DeviceState → Bool → Type 0)
    → OnUnit unit b a result R
    → Has b unit (Some s)
    → Row-of unit s b a R
row-of unit s b a result R on has = by-test (is_connected unit b) refl
  where
    by-test : (connected : Bool) → is_connected unit b ≡ connected → Row-of unit s b a R
    by-test true is =
        let at : AtUnit unit b a R = on.found is
        in let same : unit_of at.device at.end_mark at.zero_blanks ≡ s =
        some-same
        (sym (unit-there at.front at.back unit at.device at.end_mark at.zero_blanks (none-front (at_unit unit) at.front at.back at.alone))
        ∙ ap (λ (rows : List Row). connected_in rows unit) (sym at.was)
        ∙ has.is)
        in record { at = at; mark = ap (λ (u : UnitState). u.end_mark) same }
    by-test false is = let wrong : None ≡ Some s = sym (connected-none b unit is) ∙ has.is in absurd (cc)

-- the row is as before, and so are all
rows-kept :
    (unit : ℤ) (b a front back : List Row) (d d' : DeviceState) (m m' z : Bool)
    → b ≡ front ++ Connects unit d m z ∷ back
    → a ≡ front ++ Connects unit d' m' z ∷ back
    → d' ≡ d
    → m' ≡ m
    → a ≡ b
rows-kept unit b a front back d d' m m' z was now same mark =
    now
    ∙ ap (λ (x : DeviceState). front ++ Connects unit x m' z ∷ back) same
    ∙ ap (λ (x : Bool). front ++ Connects unit d x z ∷ back) mark
    ∙ sym was

-- a record was found that does not fit
pub record FoundLong (answer : Got) (line : List ℕ) (unit : ℤ) (s : UnitState) (a : List Row) (old new : List ℕ) : Type 0 where
  pub is : answer ≡ got.Long (length line)
  pub slice : new ≡ old
  pub has : Has a unit (Some (record s { position = s.position + 1 }))

pub found-long :
    (answer : Got) (line : List ℕ) (unit : ℤ) (s : UnitState) (b a : List Row) (old new : List ℕ)
    → (Tells b → MeansReading (Ok answer) (read_unit unit (units_of b)) a old new)
    → OnUnit unit b a (let r : Result Got UnitRefusal = Ok answer in r) (λ d m d' m'. ReadFrom d m d' m' old new (Ok answer))
    → Has b unit (Some s)
    → slice_get s.records s.position ≡ Some line
    → length old < length line
    → FoundLong answer line unit s a old new
found-long (got.Line n) line unit s b a old new means on has at over =
    let m : MeansReading (Ok (got.Line n)) (read_unit unit (units_of b)) a old new = means has.tells
    in let d : ReadsLine (read_unit unit (units_of b)) (units_of a) (λ l. (length l ≡ n) × (new ≡ l ++ drop n old)) = m.done
    in let same : (Some d.line ≡ Some line) × (units_of a ≡ with_unit unit (Some (behind (Some line) s)) (units_of b)) =
    found-same (read_unit unit (units_of b)) (record { found = Some d.line; after = units_of a })
    (record { found = Some line; after = with_unit unit (Some (behind (Some line) s)) (units_of b) }) d.is
    (reading-is unit (Some line) s (units_of b) has.is at)
    in let count : n ≡ length line = sym d.holds.0 ∙ ap length (some-same same.0)
    in let r : Row-of unit s b a (λ d m d' m'. ReadFrom d m d' m' old new (Ok (got.Line n))) =
    row-of unit s b a (let r : Result Got UnitRefusal = Ok (got.Line n) in r) (λ d m d' m'. ReadFrom d m d' m' old new (Ok (got.Line n))) on has
    in let fits : n ≤ length old = r.at.did.read.fits
    in absurd (omega arith)
found-long (got.Long n) line unit s b a old new means on has at over =
    let m : MeansReading (Ok (got.Long n)) (read_unit unit (units_of b)) a old new = means has.tells
    in let d : ReadsLine (read_unit unit (units_of b)) (units_of a) (λ l. (length l ≡ n) × (length old < n)) = m.done
    in let same : (Some d.line ≡ Some line) × (units_of a ≡ with_unit unit (Some (behind (Some line) s)) (units_of b)) =
    found-same (read_unit unit (units_of b)) (record { found = Some d.line; after = units_of a })
    (record { found = Some line; after = with_unit unit (Some (behind (Some line) s)) (units_of b) }) d.is
    (reading-is unit (Some line) s (units_of b) has.is at)
    in let r : Row-of unit s b a (λ d m d' m'. ReadFrom d m d' m' old new (Ok (got.Long n))) =
    row-of unit s b a (let r : Result Got UnitRefusal = Ok (got.Long n) in r) (λ d m d' m'. ReadFrom d m d' m' old new (Ok (got.Long n))) on has
    in record {
      is = ap got.Long (sym d.holds.0 ∙ ap length (some-same same.0));
      slice = r.at.did.read.slice;
      has = has-changed unit (Some (behind (Some line) s)) b a m.tells same.1;
    }
found-long got.End line unit s b a old new means on has at over =
    let m : MeansReading (Ok got.End) (read_unit unit (units_of b)) a old new = means has.tells
    in let same : (None ≡ Some line) × (units_of a ≡ with_unit unit (Some (behind (Some line) s)) (units_of b)) =
    found-same (read_unit unit (units_of b)) (record { found = None; after = units_of a })
    (record { found = Some line; after = with_unit unit (Some (behind (Some line) s)) (units_of b) }) m.done
    (reading-is unit (Some line) s (units_of b) has.is at)
    in let wrong : None ≡ Some line = same.0 in absurd (cc)
found-long got.Failed line unit s b a old new means on has at over = absurd (never-failed unit b a old new on)

-- the end was found
pub record FoundEnd (answer : Got) (unit : ℤ) (s : UnitState) (a : List Row) : Type 0 where
  pub is : answer ≡ got.End
  pub has : Has a unit (Some (record s { end_mark = true }))

pub found-end :
    (answer : Got) (unit : ℤ) (s : UnitState) (b a : List Row) (old new : List ℕ)
    → (Tells b → MeansReading (Ok answer) (read_unit unit (units_of b)) a old new)
    → OnUnit unit b a (let r : Result Got UnitRefusal = Ok answer in r) (λ d m d' m'. ReadFrom d m d' m' old new (Ok answer))
    → Has b unit (Some s)
    → slice_get s.records s.position ≡ None
    → FoundEnd answer unit s a
found-end got.End unit s b a old new means on has at =
    let m : MeansReading (Ok got.End) (read_unit unit (units_of b)) a old new = means has.tells
    in record {
      is = refl;
      has =
          has-changed unit (Some (behind None s)) b a m.tells
          (found-same (read_unit unit (units_of b)) (record { found = None; after = units_of a })
          (record { found = None; after = with_unit unit (Some (behind None s)) (units_of b) }) m.done
          (reading-is unit None s (units_of b) has.is at)).1;
    }
found-end (got.Line n) unit s b a old new means on has at =
    let m : MeansReading (Ok (got.Line n)) (read_unit unit (units_of b)) a old new = means has.tells
    in let wrong : Some m.done.line ≡ None =
    (found-same (read_unit unit (units_of b)) (record { found = Some m.done.line; after = units_of a })
    (record { found = None; after = with_unit unit (Some (behind None s)) (units_of b) }) m.done.is
    (reading-is unit None s (units_of b) has.is at)).0
    in absurd (cc)
found-end (got.Long n) unit s b a old new means on has at =
    let m : MeansReading (Ok (got.Long n)) (read_unit unit (units_of b)) a old new = means has.tells
    in let wrong : Some m.done.line ≡ None =
    (found-same (read_unit unit (units_of b)) (record { found = Some m.done.line; after = units_of a })
    (record { found = None; after = with_unit unit (Some (behind None s)) (units_of b) }) m.done.is
    (reading-is unit None s (units_of b) has.is at)).0
    in absurd (cc)
found-end got.Failed unit s b a old new means on has at = absurd (never-failed unit b a old new on)

-- behind the endfile record nothing is written, and nothing changes
pub write-past :
    {T : Type 0} (unit : ℤ) (bytes : List ℕ) (s : UnitState) (b a : List Row) (result : Result T UnitRefusal)
    → OnUnit unit b a result (λ d m d' m'. WrittenTo d m d' m' bytes result)
    → Has b unit (Some s)
    → s.end_mark ≡ true
    → IsErrOf result PastEnd × Has a unit (Some s)
write-past unit bytes s b a result on has marked =
    let r : Row-of unit s b a (λ d m d' m'. WrittenTo d m d' m' bytes result) =
    row-of unit s b a result (λ d m d' m'. WrittenTo d m d' m' bytes result) on has
    in let past : IsErrOf result PastEnd = r.at.did.past.1 (r.mark ∙ marked)
    in let same : a ≡ b =
    rows-kept unit b a r.at.front r.at.back r.at.device r.at.device' r.at.end_mark r.at.end_mark' r.at.zero_blanks r.at.was
    r.at.now (r.at.did.unchanged past) r.at.did.mark
    in (past, subst (λ (rows : List Row). Has rows unit (Some s)) (sym same) has)

-- nor is a second endfile record
pub end-past :
    {T : Type 0} (unit : ℤ) (s : UnitState) (b a : List Row) (result : Result T UnitRefusal)
    → OnUnit unit b a result (λ d m d' m'. EndedOn d m d' m' result)
    → Has b unit (Some s)
    → s.end_mark ≡ true
    → IsErrOf result PastEnd × Has a unit (Some s)
end-past {T = T} unit s b a result on has marked =
    let r : Row-of unit s b a (λ d m d' m'. EndedOn d m d' m' result) =
    row-of unit s b a result (λ d m d' m'. EndedOn d m d' m' result) on has
    in let past : IsErrOf result PastEnd = r.at.did.past.1 (r.mark ∙ marked)
    in let kept : r.at.end_mark' ≡ r.at.end_mark =
    subst (λ (x : Result T UnitRefusal). OnErr x (r.at.end_mark' ≡ r.at.end_mark)) past r.at.did.kept
    in let same : a ≡ b =
    rows-kept unit b a r.at.front r.at.back r.at.device r.at.device' r.at.end_mark r.at.end_mark' r.at.zero_blanks r.at.was
    r.at.now (r.at.did.unchanged past) kept
    in (past, subst (λ (rows : List Row). Has rows unit (Some s)) (sym same) has)

-- rows that are as before have no more units
pub still-free : (unit : ℤ) (b a : List Row) → a ≡ b → is_connected unit b ≡ false → is_connected unit a ≡ false
still-free unit b a same free = ap (is_connected unit) same ∙ free

-- an empty device in memory
pub fresh : (rows : List Row) → rows ≡ Connects the_unit (tape_state empty_tape) false false ∷ [] → Has rows the_unit (at_record [] 0 false)
fresh rows is =
    subst (λ (r : List Row). Has r the_unit (at_record [] 0 false)) (sym is) (record { tells = (refl, tt); is = refl })

-- two files of one name in the drawer, the first with a record
pub both_offered :
    (rows between : List Row)
    → rows ≡ between ++ Offers (68 ∷ []) (tape_state empty_tape) ∷ []
    → between ≡ Offers (68 ∷ []) (tape_state (record empty_tape { records = (65 ∷ []) ∷ [] })) ∷ []
    → HasDrawer rows None two_files
both_offered rows between is first =
    subst (λ (r : List Row). HasDrawer r None two_files)
    (sym (is ∙ ap (λ (r : List Row). r ++ Offers (68 ∷ []) (tape_state empty_tape) ∷ []) first))
    (record { tells = (refl, (refl, tt)); is = refl; drawer = refl })

-- what opening gives where the unit is free and these files stand in the drawer
opening-is :
    (name : List ℕ) (z : Bool) (files : List Offered) (units : Units)
    → units.connected the_unit ≡ None
    → units.drawer ≡ files
    → open_unit the_unit name z units ≡ connect_file the_unit z (pick name files) units
unfolding open_unit
opening-is name z files units free drawer =
    ap (λ (o : Option UnitState). open_at the_unit name z o units) free
    ∙ ap (λ (d : List Offered). connect_file the_unit z (pick name d) units) drawer

-- what opening gives where the unit is connected
opening-taken :
    (name : List ℕ) (z : Bool) (s : UnitState) (units : Units)
    → units.connected the_unit ≡ Some s
    → open_unit the_unit name z units ≡ Err Taken
unfolding open_unit
opening-taken name z s units there = ap (λ (o : Option UnitState). open_at the_unit name z o units) there

pub record WasRefused {T : Type 0} (result : Result T UnitRefusal) (why : UnitRefusal) (b a : List Row) : Type 0 where
  pub is : IsErrOf result why
  pub kept : a ≡ b

was-refused :
    {T : Type 0} (unit : ℤ) (name : List ℕ) (z : Bool) (why : UnitRefusal) (b a : List Row) (result : Result T UnitRefusal)
    → OpenedUnit unit name z b a result
    → MeansOpening result (open_unit unit name z (units_of b)) b a
    → open_unit unit name z (units_of b) ≡ Err why
    → WasRefused result why b a
was-refused unit name z why b a (Ok x) did means is = let wrong : Ok (units_of a) ≡ Err why = sym means.done ∙ is in absurd (cc)
was-refused unit name z why b a (Err refused) did means is =
    let same : (let r : Result Units UnitRefusal = Err refused in r) ≡ Err why = sym means.refused ∙ is
    in record { is = cc; kept = did.kept }

pub no-such-file :
    {T : Type 0} (name : List ℕ) (z : Bool) (b a : List Row) (result : Result T UnitRefusal)
    → OpenedUnit the_unit name z b a result
    → MeansOpening result (open_unit the_unit name z (units_of b)) b a
    → HasDrawer b None two_files
    → pick name two_files ≡ None
    → WasRefused result NotOffered b a
no-such-file name z b a result did means has none =
    was-refused the_unit name z NotOffered b a result did means
    (opening-is name z two_files (units_of b) has.is has.drawer
    ∙ ap (λ (p : Option Picked). connect_file the_unit z p (units_of b)) none)

pub opened-again :
    {T : Type 0} (name : List ℕ) (z : Bool) (s : UnitState) (files : List Offered) (b a : List Row) (result : Result T UnitRefusal)
    → OpenedUnit the_unit name z b a result
    → MeansOpening result (open_unit the_unit name z (units_of b)) b a
    → HasDrawer b (Some s) files
    → WasRefused result Taken b a
opened-again name z s files b a result did means has =
    was-refused the_unit name z Taken b a result did means (opening-taken name z s (units_of b) has.is)

pub record WasOpened {T : Type 0} (result : Result T UnitRefusal) (state : UnitState) (files : List Offered) (a : List Row) : Type 0 where
  pub is : IsOk result
  pub has : HasDrawer a (Some state) files

pub first-opened :
    {T : Type 0} (name : List ℕ) (z : Bool) (picked : Picked) (b a : List Row) (result : Result T UnitRefusal)
    → MeansOpening result (open_unit the_unit name z (units_of b)) b a
    → HasDrawer b None two_files
    → pick name two_files ≡ Some picked
    → WasOpened result
    (record { records = picked.file.records; position = picked.file.position; end_mark = false; zero_blanks = z }) picked.rest a
first-opened name z picked b a (Ok x) means has found =
    let s : UnitState = record { records = picked.file.records; position = picked.file.position; end_mark = false; zero_blanks = z }
    in let after : Units = with_unit the_unit (Some s) (record (units_of b) { drawer = picked.rest })
    in let same : units_of a ≡ after =
    ok-same
    (sym means.done
    ∙ opening-is name z two_files (units_of b) has.is has.drawer
    ∙ ap (λ (p : Option Picked). connect_file the_unit z p (units_of b)) found)
    in record {
      is = refl;
      has =
          record {
            tells = means.tells has.tells;
            is = ap (λ (u : Units). u.connected the_unit) same;
            drawer = ap (λ (u : Units). u.drawer) same;
          };
    }
first-opened name z picked b a (Err refused) means has found =
    let s : UnitState = record { records = picked.file.records; position = picked.file.position; end_mark = false; zero_blanks = z }
    in let wrong : Err refused ≡ Ok (with_unit the_unit (Some s) (record (units_of b) { drawer = picked.rest })) =
    sym means.refused
    ∙ opening-is name z two_files (units_of b) has.is has.drawer
    ∙ ap (λ (p : Option Picked). connect_file the_unit z p (units_of b)) found
    in absurd (cc)

-- the rows stayed, and so did what they mean
pub drawer-kept :
    (b a : List Row) (state : Option UnitState) (files : List Offered) → a ≡ b → HasDrawer b state files → HasDrawer a state files
drawer-kept b a state files same has = subst (λ (rows : List Row). HasDrawer rows state files) (sym same) has
