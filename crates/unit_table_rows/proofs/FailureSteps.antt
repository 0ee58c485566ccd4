-- What one call of a unit table leaves whose device fails, from the clauses of the call alone.
use Rattle.std.proofs.Common.{◌≡◌, ℕ, ℤ, Bool, true, false, List, [], ◌∷◌, refl, ap, ◌∙◌, subst, rules}
use Rattle.std.specs.Prelude.{Result, Ok, Err, OnOk, IfErr}
use Rattle.f2c_outside.specs.Device.{DeviceState}
use Rattle.f2c_outside.specs.Table.{Row, AtUnit, OnUnit, WrittenTo, BackOn, EndedOn, is_connected}
use Rattle.f2c_outside.specs.Finishing.{FinishedAll}
use Rattle.f2c_outside.specs.declared.unit_table.UnitFault.{UnitFault}
use Rattle.unit_table_rows.specs.Ends.{the_unit}
use Rattle.f2c_outside.specs.Finishing.{EachRow, OnDevice, WasFinished, FinishedUpTo}
use Rattle.run_state.specs.declared.refusals.UnitRefusal.{UnitRefusal}
use Rattle.unit_table_rows.specs.Failures.{CalledUnlessMarked, Three, three_rows, AllFinished, StoppedAtThree}

-- three rows and none behind them
four :
    (x y z : Row) (rest : List Row) (x' y' z' : Row) → x ≡ x' → y ≡ y' → z ≡ z' → rest ≡ [] → x ∷ y ∷ z ∷ rest ≡ x' ∷ y' ∷ z' ∷ []
four x y z rest x' y' z' p q r e =
    ap (λ (row : Row). row ∷ y ∷ z ∷ rest) p
    ∙ ap (λ (row : Row). x' ∷ row ∷ z ∷ rest) q
    ∙ ap (λ (row : Row). x' ∷ y' ∷ row ∷ rest) r
    ∙ ap (λ (rows : List Row). x' ∷ y' ∷ z' ∷ rows) e

three-finished :
    (three : Three) (a : List Row) → EachRow (OnDevice (λ own d d'. WasFinished d d')) (three_rows three) a → AllFinished three a
three-finished three [] each = absurd each
three-finished three (x ∷ []) each = absurd each.1
three-finished three (x ∷ y ∷ []) each = absurd each.1.1
three-finished three (x ∷ y ∷ z ∷ rest) (five, (one, (last, none))) =
    record {
      after = record { one = one.device'; three = last.device'; five = five.device' };
      is = four x y z rest _ _ _ five.is one.is last.is none;
      one = one.did;
      three = last.did;
      five = five.did;
    }

pub all-finished :
    {T : Type 0} (result : Result T UnitFault) (three : Three) (b a : List Row)
    → FinishedAll b a result
    → b ≡ three_rows three
    → OnOk result (AllFinished three a)
all-finished (Ok x) three b a did is =
    three-finished three a (subst (λ (rows : List Row). EachRow (OnDevice (λ own d d'. WasFinished d d')) rows a) is did.all)
all-finished (Err fault) three b a did is = tt

three-stopped :
    (three : Three) (a : List Row) → EachRow (OnDevice (FinishedUpTo the_unit)) (three_rows three) a → StoppedAtThree three a
three-stopped three [] each = absurd each
three-stopped three (x ∷ []) each = absurd each.1
three-stopped three (x ∷ y ∷ []) each = absurd each.1.1
three-stopped three (x ∷ y ∷ z ∷ rest) (five, (one, (last, none))) =
    record {
      after = record { one = one.device'; three = last.device'; five = five.device' };
      is = four x y z rest _ _ _ five.is one.is last.is none;
      one = one.did.before (search rules);
      three = last.did.here refl;
      five = five.did.behind (search rules);
    }

pub stopped-at-three :
    {T : Type 0} (result : Result T UnitFault) (three : Three) (b a : List Row)
    → FinishedAll b a result
    → b ≡ three_rows three
    → IfErr result (λ (fault : UnitFault). fault.unit ≡ the_unit → StoppedAtThree three a)
stopped-at-three (Ok x) three b a did is = tt
stopped-at-three (Err fault) three b a did is =
    λ at.
    three-stopped three a
    (subst (λ (unit : ℤ). EachRow (OnDevice (FinishedUpTo unit)) (three_rows three) a) at
    (subst (λ (rows : List Row). EachRow (OnDevice (FinishedUpTo fault.unit)) rows a) is did.first.rows))

written-called :
    {T : Type 0} (d d' : DeviceState) (m m' : Bool) (bytes : List ℕ) (result : Result T UnitRefusal)
    → WrittenTo d m d' m' bytes result
    → CalledUnlessMarked d m d' m'
written-called d d' true m' bytes result did = ap (λ (x : DeviceState). x.calls) (did.unchanged (did.past.1 refl))
written-called d d' false m' bytes result did = (did.called refl).counted

back-called :
    {T : Type 0} (d d' : DeviceState) (m m' : Bool) (result : Result T UnitRefusal) → BackOn d m d' m' result → CalledUnlessMarked d m d' m'
back-called d d' true m' result did = ap (λ (x : DeviceState). x.calls) (did.marked refl).0
back-called d d' false m' result did = (did.called refl).counted

ended-called :
    {T : Type 0} (d d' : DeviceState) (m m' : Bool) (result : Result T UnitRefusal) → EndedOn d m d' m' result → CalledUnlessMarked d m d' m'
ended-called d d' true m' result did = ap (λ (x : DeviceState). x.calls) (did.unchanged (did.past.1 refl))
ended-called d d' false m' result did = (did.called refl).counted

-- what is known of the row of a unit gives something else of it
also-at :
    (unit : ℤ) (b a : List Row) (R Q : DeviceState → Bool → DeviceState → Bool → Type 0)
    → ((d : DeviceState) (m : Bool) (d' : DeviceState) (m' : Bool) → R d m d' m' → Q d m d' m')
    → AtUnit unit b a R
    → AtUnit unit b a Q
also-at unit b a R Q step at =
    record {
      front = at.front;
      back = at.back;
      device = at.device;
      device' = at.device';
      end_mark = at.end_mark;
      end_mark' = at.end_mark';
      zero_blanks = at.zero_blanks;
      was = at.was;
      now = at.now;
      alone = at.alone;
      did = step at.device at.end_mark at.device' at.end_mark' at.did;
    }

-- a record was written by one call, or by none behind the end mark
pub write-called :
    {T : Type 0} (unit : ℤ) (b a : List Row) (bytes : List ℕ) (result : Result T UnitRefusal)
    → OnUnit unit b a result (λ d m d' m'. WrittenTo d m d' m' bytes result)
    → is_connected unit b ≡ true
    → AtUnit unit b a CalledUnlessMarked
write-called unit b a bytes result on there =
    also-at unit b a (λ d m d' m'. WrittenTo d m d' m' bytes result) CalledUnlessMarked
    (λ d m d' m' did. written-called d d' m m' bytes result did) (on.found there)

-- the unit went back by one call, or by none where the end mark stood
pub back-unit-called :
    {T : Type 0} (unit : ℤ) (b a : List Row) (result : Result T UnitRefusal)
    → OnUnit unit b a result (λ d m d' m'. BackOn d m d' m' result)
    → is_connected unit b ≡ true
    → AtUnit unit b a CalledUnlessMarked
back-unit-called unit b a result on there =
    also-at unit b a (λ d m d' m'. BackOn d m d' m' result) CalledUnlessMarked
    (λ d m d' m' did. back-called d d' m m' result did) (on.found there)

-- the endfile record was written by one call, or by none behind the end mark
pub end-unit-called :
    {T : Type 0} (unit : ℤ) (b a : List Row) (result : Result T UnitRefusal)
    → OnUnit unit b a result (λ d m d' m'. EndedOn d m d' m' result)
    → is_connected unit b ≡ true
    → AtUnit unit b a CalledUnlessMarked
end-unit-called unit b a result on there =
    also-at unit b a (λ d m d' m'. EndedOn d m d' m' result) CalledUnlessMarked
    (λ d m d' m' did. ended-called d d' m m' result did) (on.found there)
