-- Lemmas on finishing the devices of a unit table in ascending order of unit.
use Rattle.std.proofs.Common.{◌≡◌, ℕ, suc, ◌+◌, ◌<◌, ◌≤◌, ℤ, Bool, true, false, ◌&&◌, ◌||◌, List, [], ◌∷◌, ◌++◌, length, map, take, get_or, Option, Some, None, refl, ap, sym, ◌∙◌, subst, arith, ◌⊎◌, inl, inr}
use Rattle.std.specs.Prelude.{◌<ℤ◌, Result, Ok, Err, if◌then◌else◌}
use Rattle.std.specs.List.{list_any}
use Rattle.std.specs.Ordering.{int_eq}
use Rattle.std.specs.Int.Signed.{lt_z}
use Rattle.std.proofs.lemmas.Int.{ints}
use Rattle.std.proofs.lemmas.List.{append-nil, take_more}
use Rattle.std.proofs.lemmas.List.Folds.{list_any-append}
use Rattle.std.proofs.lemmas.Bool.Decides.{Decides-int_eq}
use Rattle.std.specs.declared.alloc.Global.{Global}
use Rattle.std.specs.declared.dyn_box.DynBox.{DynBox}
use Rattle.f2c_outside.specs.Device.{DeviceState}
use Rattle.f2c_outside.specs.Table.{Row, Offers, Connects, Closed, is_connected, units_at, AtUnit, OnUnit, FinishedOn}
use Rattle.f2c_outside.specs.Finishing.{WasFinished, FailedToFinish, FinishedUpTo, OnDevice, EachRow, IsFirstFault, is_above, is_below, IsLeastAbove, IsNext}
use Rattle.f2c_outside.specs.Shown.{shown, units_in, next_in}
use Rattle.f2c_outside.specs.declared.unit_table.Row as declared
use Rattle.f2c_outside.specs.declared.unit_table.Row.TheVariants as row
use Rattle.run_state.specs.declared.refusals.UnitRefusal.{UnitRefusal}
use Rattle.run_state.specs.declared.refusals.UnitRefusal.TheVariants.{NotConnected, NotOffered, Taken, PastEnd, Failed}
use Rattle.f2c_outside.proofs.TableLaws.{none-parts, none-front, none-back, some-inside, units_in-append}

-- facts of signed numbers
less-self : (x : ℤ) → lt_z x x ≡ false
less-self x = grind (arith, ints)

less-through : (x y z : ℤ) → lt_z x y ≡ true → lt_z y z ≡ true → lt_z x z ≡ true
less-through x y z a b = grind (arith, ints)

not-less : (x y : ℤ) → lt_z x y ≡ false → int_eq x y ≡ false → lt_z y x ≡ true
not-less x y a b = grind (arith, ints)

and-false : (a b : Bool) → a ≡ false → (a && b) ≡ false
and-false false b is = refl
and-false true b is = absurd (cc)

both-true : (a b : Bool) → (a && b) ≡ true → (a ≡ true) × (b ≡ true)
both-true true b is = (refl, is)
both-true false b is = absurd (cc)

or-parts : (a b : Bool) → (a || b) ≡ false → (a ≡ false) × (b ≡ false)
or-parts false b is = (refl, is)
or-parts true b is = absurd (cc)

or-none : (a b : Bool) → a ≡ false → b ≡ false → (a || b) ≡ false
or-none false b x y = y
or-none true b x y = absurd (cc)

either : (b : Bool) → (b ≡ true) ⊎ (b ≡ false)
either true = inl refl
either false = inr refl

-- a test that passes no more than another passes none where that one does
none-of-less :
    {X : Type 0} (p q : X → Bool)
    → ((x : X) → p x ≡ false → q x ≡ false)
    → (xs : List X)
    → list_any p xs ≡ false
    → list_any q xs ≡ false
none-of-less p q less [] none = refl
none-of-less p q less (x ∷ xs) none =
    let parts : (p x ≡ false) × (list_any p xs ≡ false) = or-parts (p x) (list_any p xs) none
    in or-none (q x) (list_any q xs) (less x parts.0) (none-of-less p q less xs parts.1)

-- none passes one test or the other
none-of-both :
    {X : Type 0} (p q : X → Bool) (xs : List X)
    → list_any p xs ≡ false
    → list_any q xs ≡ false
    → list_any (λ x. p x || q x) xs ≡ false
none-of-both p q [] a b = refl
none-of-both p q (x ∷ xs) a b =
    let left : (p x ≡ false) × (list_any p xs ≡ false) = or-parts (p x) (list_any p xs) a
    in let right : (q x ≡ false) × (list_any q xs ≡ false) = or-parts (q x) (list_any q xs) b
    in or-none (p x || q x) (list_any (λ y. p y || q y) xs) (or-none (p x) (q x) left.0 right.0)
    (none-of-both p q xs left.1 right.1)

-- a unit that is lesser than one that no unit above the last one is below
lesser-none :
    (a x y : Bool) → (a && x) ≡ false → (y ≡ true → x ≡ true) → (a && y) ≡ false
lesser-none false x y is less = refl
lesser-none true false true is less = absurd (cc (less refl))
lesser-none true false false is less = refl
lesser-none true true y is less = absurd (cc)

-- the unit of one more row
next-unit :
    (last : Option ℤ) (units : List ℤ) (least : Option ℤ) (unit : ℤ)
    → IsNext last units least
    → IsNext last (units ++ unit ∷ []) (if is_above last unit && is_below least unit then Some unit else least)
next-unit last units None unit is = by-test (is_above last unit) refl
  where
    by-test : (b : Bool) → is_above last unit ≡ b → IsNext last (units ++ unit ∷ []) (if b && true then Some unit else None)
    by-test true above =
        record {
          among = some-inside (λ own. int_eq own unit) units [] unit ((Decides-int_eq unit unit).1 refl);
          above = above;
          least =
              none-parts (λ own. is_above last own && lt_z own unit) units (unit ∷ [])
              (none-of-less (is_above last) (λ own. is_above last own && lt_z own unit)
              (λ own none. and-false (is_above last own) (lt_z own unit) none) units is)
              (or-none (is_above last unit && lt_z unit unit) false
              (ap (λ (x : Bool). is_above last unit && x) (less-self unit) ∙ ap (λ (x : Bool). x && false) above) refl);
        }
    by-test false above = none-parts (is_above last) units (unit ∷ []) is (or-none (is_above last unit) false above refl)
next-unit last units (Some least) unit is = by-test (is_above last unit) (lt_z unit least) refl refl
  where
    kept : (is_above last unit && lt_z unit least) ≡ false → IsLeastAbove last (units ++ unit ∷ []) least
    kept none =
        record {
          among =
              list_any-append (λ own. int_eq own least) units (unit ∷ [])
              ∙ ap (λ (b : Bool). b || list_any (λ own. int_eq own least) (unit ∷ [])) is.among;
          above = is.above;
          least =
              none-parts (λ own. is_above last own && lt_z own least) units (unit ∷ []) is.least
              (or-none (is_above last unit && lt_z unit least) false none refl);
        }

    by-test :
        (a b : Bool) → is_above last unit ≡ a → lt_z unit least ≡ b
        → IsNext last (units ++ unit ∷ []) (if a && b then Some unit else Some least)
    by-test true true above below =
        record {
          among = some-inside (λ own. int_eq own unit) units [] unit ((Decides-int_eq unit unit).1 refl);
          above = above;
          least =
              none-parts (λ own. is_above last own && lt_z own unit) units (unit ∷ [])
              (none-of-less (λ own. is_above last own && lt_z own least) (λ own. is_above last own && lt_z own unit)
              (λ own none.
              lesser-none (is_above last own) (lt_z own least) (lt_z own unit) none
              (λ less. less-through own unit least less below))
              units is.least)
              (or-none (is_above last unit && lt_z unit unit) false
              (ap (λ (x : Bool). is_above last unit && x) (less-self unit) ∙ ap (λ (x : Bool). x && false) above) refl);
        }
    by-test true false above below = kept (ap (λ (x : Bool). x && lt_z unit least) above ∙ below)
    by-test false b above below = kept (and-false (is_above last unit) (lt_z unit least) above)

-- the same for a row, which may have no unit
next-row :
    {V : Type 0} {H : V → Type 0} (last : Option ℤ) (rows : List (declared.Row V H)) (least : Option ℤ) (r : declared.Row V H)
    → IsNext last (units_in rows) least
    → IsNext last (units_in rows ++ units_in (r ∷ [])) (next_in last least r)
next-row last rows least (row.Connected c) is = next-unit last (units_in rows) least c.unit is
next-row last rows least (row.Offered name device) is = subst (λ (us : List ℤ). IsNext last us least) (sym (append-nil (units_in rows))) is
next-row last rows least row.Closed is = subst (λ (us : List ℤ). IsNext last us least) (sym (append-nil (units_in rows))) is

-- the least of the rows that were looked at, with the next one
pub next-step :
    {V : Type 0} {H : V → Type 0} (last : Option ℤ) (rows : List (declared.Row V H)) (n : ℕ) (r : declared.Row V H) (least next : Option ℤ)
    → n < length rows
    → r ≡ get_or rows n r
    → next ≡ next_in last least r
    → IsNext last (units_in (take n rows)) least
    → IsNext last (units_in (take (n + 1) rows)) next
next-step {V = V} {H = H} last rows n r least next within at is before =
    subst (λ (us : List ℤ). IsNext last us next)
    (sym
    (ap (λ (list : List (declared.Row V H)). units_in list)
    (take_more rows n r within ∙ ap (λ (x : declared.Row V H). take n rows ++ x ∷ []) (sym at))
    ∙ units_in-append (take n rows) (r ∷ [])))
    (subst (λ (o : Option ℤ). IsNext last (units_in (take n rows) ++ units_in (r ∷ [])) o) (sym is)
    (next-row last (take n rows) least r before))

-- the units of the rows as they are shown
pub units-shown :
    {V : Type 0} {H : V → Type 0} (state : DynBox V Global H → DeviceState) (rows : List (declared.Row V H))
    → units_at (map (shown state) rows) ≡ units_in rows
units-shown state [] = refl
units-shown state (row.Connected c ∷ rest) = ap (λ (us : List ℤ). c.unit ∷ us) (units-shown state rest)
units-shown state (row.Offered name device ∷ rest) = units-shown state rest
units-shown state (row.Closed ∷ rest) = units-shown state rest

units_at-append : (xs ys : List Row) → units_at (xs ++ ys) ≡ units_at xs ++ units_at ys
units_at-append [] ys = refl
units_at-append (Connects unit device m z ∷ xs) ys = ap (λ (us : List ℤ). unit ∷ us) (units_at-append xs ys)
units_at-append (Offers name device ∷ xs) ys = units_at-append xs ys
units_at-append (Closed ∷ xs) ys = units_at-append xs ys

-- a unit is connected where it is among the units
connected-among : (unit : ℤ) (rows : List Row) → is_connected unit rows ≡ list_any (λ own. int_eq own unit) (units_at rows)
connected-among unit [] = refl
connected-among unit (Connects own device m z ∷ rest) = ap (λ (b : Bool). int_eq own unit || b) (connected-among unit rest)
connected-among unit (Offers name device ∷ rest) = connected-among unit rest
connected-among unit (Closed ∷ rest) = connected-among unit rest

-- what became of the device of a unit where every unit up to the last one has been finished
pub record FinishedTo (last : Option ℤ) (own : ℤ) (b a : DeviceState) : Type 0 where
  pub done : is_above last own ≡ false → WasFinished b a
  pub todo : is_above last own ≡ true → a ≡ b

true-false : true ≡ false → ⊥
true-false is = cc

-- at first nothing is finished
pub none-finished : (rows : List Row) → EachRow (OnDevice (FinishedTo None)) rows rows
none-finished [] = refl
none-finished (Connects unit device m z ∷ rest) =
    (record { device' = device; is = refl; did = record { done = λ is. absurd (true-false is); todo = λ _. refl } }, none-finished rest)
none-finished (Offers name device ∷ rest) = (refl, none-finished rest)
none-finished (Closed ∷ rest) = (refl, none-finished rest)

no-row : (front back : List Row) (x : Row) → front ++ x ∷ back ≡ [] → ⊥
no-row [] back x is = cc
no-row (y ∷ front) back x is = cc

unit-alone : (x : Row) (unit : ℤ) (device : DeviceState) (m z : Bool) → x ≡ Connects unit device m z → units_at (x ∷ []) ≡ unit ∷ []
unit-alone x unit device m z is = ap (λ (y : Row). units_at (y ∷ [])) is

-- what is said of a row still says the other thing, where its unit does not pass a test
row-weaker :
    (R R' : ℤ → DeviceState → DeviceState → Type 0) (p : ℤ → Bool)
    → ((own : ℤ) (e e' : DeviceState) → p own ≡ false → R own e e' → R' own e e')
    → (b a : Row)
    → list_any p (units_at (a ∷ [])) ≡ false
    → OnDevice R b a
    → OnDevice R' b a
row-weaker R R' p keeps (Offers name device) a none on = on
row-weaker R R' p keeps Closed a none on = on
row-weaker R R' p keeps (Connects unit device m z) a none on =
    let own : list_any p (unit ∷ []) ≡ false = sym (ap (list_any p) (unit-alone a unit on.device' m z on.is)) ∙ none
    in record { device' = on.device'; is = on.is; did = keeps unit device on.device' ((or-parts (p unit) false own).0) on.did }

-- the same for each row
pub rows-weaker :
    (R R' : ℤ → DeviceState → DeviceState → Type 0) (p : ℤ → Bool)
    → ((own : ℤ) (e e' : DeviceState) → p own ≡ false → R own e e' → R' own e e')
    → (b a : List Row)
    → list_any p (units_at a) ≡ false
    → EachRow (OnDevice R) b a
    → EachRow (OnDevice R') b a
rows-weaker R R' p keeps [] a none each = each
rows-weaker R R' p keeps (x ∷ b) [] none each = each
rows-weaker R R' p keeps (x ∷ b) (y ∷ a) none each =
    let parts : list_any p (units_at (y ∷ []) ++ units_at a) ≡ false = sym (ap (list_any p) (units_at-append (y ∷ []) a)) ∙ none
    in (
      row-weaker R R' p keeps x y (none-front p (units_at (y ∷ [])) (units_at a) parts) each.0,
      rows-weaker R R' p keeps b a (none-back p (units_at (y ∷ [])) (units_at a) parts) each.1,
    )

-- the device of one row changed once more
row-changed :
    (R R' : ℤ → DeviceState → DeviceState → Type 0) (unit : ℤ) (d d' : DeviceState) (m z : Bool)
    → ((e : DeviceState) → R unit e d → R' unit e d')
    → (b : Row)
    → OnDevice R b (Connects unit d m z)
    → OnDevice R' b (Connects unit d' m z)
row-changed R R' unit d d' m z here (Offers name device) on = absurd (cc)
row-changed R R' unit d d' m z here Closed on = absurd (cc)
row-changed R R' unit d d' m z here (Connects own e n y) on =
    let same : own ≡ unit = cc (on.is)
    in let device : on.device' ≡ d = cc (on.is)
    in record {
      device' = d';
      is = cc (on.is);
      did =
          subst (λ (u : ℤ). R' u e d') (sym same)
          (here e (subst (λ (u : ℤ). R u e d) same (subst (λ (x : DeviceState). R own e x) device on.did)));
    }

-- one row changed once more, and the others are as they were
pub rows-changed :
    (R R' : ℤ → DeviceState → DeviceState → Type 0) (p : ℤ → Bool) (unit : ℤ) (d d' : DeviceState) (m z : Bool)
    → ((own : ℤ) (e e' : DeviceState) → p own ≡ false → R own e e' → R' own e e')
    → ((e : DeviceState) → R unit e d → R' unit e d')
    → (b front back : List Row)
    → list_any p (units_at front) ≡ false
    → list_any p (units_at back) ≡ false
    → EachRow (OnDevice R) b (front ++ Connects unit d m z ∷ back)
    → EachRow (OnDevice R') b (front ++ Connects unit d' m z ∷ back)
rows-changed R R' p unit d d' m z keeps here [] front back f k each = absurd (no-row front back (Connects unit d m z) each)
rows-changed R R' p unit d d' m z keeps here (x ∷ b) [] back f k each =
    (row-changed R R' unit d d' m z here x each.0, rows-weaker R R' p keeps b back k each.1)
rows-changed R R' p unit d d' m z keeps here (x ∷ b) (y ∷ front) back f k each =
    let parts : list_any p (units_at (y ∷ []) ++ units_at front) ≡ false = sym (ap (list_any p) (units_at-append (y ∷ []) front)) ∙ f
    in (
      row-weaker R R' p keeps x y (none-front p (units_at (y ∷ [])) (units_at front) parts) each.0,
      rows-changed R R' p unit d d' m z keeps here b front back (none-back p (units_at (y ∷ [])) (units_at front) parts) k each.1,
    )

-- the unit is the one that was called, or stands between it and the last one
abbrev pub others : Option ℤ → ℤ → ℤ → Bool
others last unit own = int_eq own unit || (is_above last own && lt_z own unit)

-- no other row has such a unit
pub record Others (last : Option ℤ) (unit : ℤ) (front back : List Row) : Type 0 where
  pub above : is_above last unit ≡ true
  pub front_none : list_any (others last unit) (units_at front) ≡ false
  pub back_none : list_any (others last unit) (units_at back) ≡ false

pub others-none :
    (last : Option ℤ) (unit : ℤ) (front back : List Row) (d : DeviceState) (m z : Bool)
    → IsNext last (units_at (front ++ Connects unit d m z ∷ back)) (Some unit)
    → is_connected unit (front ++ back) ≡ false
    → Others last unit front back
others-none last unit front back d m z next alone =
    let same : ℤ → Bool = λ own. int_eq own unit
    in let between : ℤ → Bool = λ own. is_above last own && lt_z own unit
    in let equal : list_any same (units_at front ++ units_at back) ≡ false =
    sym (ap (list_any same) (units_at-append front back)) ∙ sym (connected-among unit (front ++ back)) ∙ alone
    in let least : list_any between (units_at front ++ unit ∷ units_at back) ≡ false =
    sym (ap (list_any between) (units_at-append front (Connects unit d m z ∷ back))) ∙ next.least
    in record {
      above = next.above;
      front_none =
          none-of-both same between (units_at front) (none-front same (units_at front) (units_at back) equal)
          (none-front between (units_at front) (unit ∷ units_at back) least);
      back_none =
          none-of-both same between (units_at back) (none-back same (units_at front) (units_at back) equal)
          ((or-parts (between unit) (list_any between (units_at back)) (none-back between (units_at front) (unit ∷ units_at back) least)).1);
    }

above-through : (last : Option ℤ) (unit own : ℤ) → is_above last unit ≡ true → lt_z unit own ≡ true → is_above last own ≡ true
above-through None unit own above more = refl
above-through (Some last) unit own above more = less-through last unit own above more

not-between : (a x : Bool) → (a && x) ≡ false → x ≡ true → a ≡ false
not-between false x is holds = refl
not-between true x is holds = absurd (true-false (sym holds ∙ is))

-- the row of the unit that was finished, and no other, changed once more
changed-there :
    (last : Option ℤ) (unit : ℤ) (R' : ℤ → DeviceState → DeviceState → Type 0) (b b0 a : List Row) (R : DeviceState → Bool → DeviceState → Bool → Type 0)
    (there : AtUnit unit b0 a R)
    → IsNext last (units_at b0) (Some unit)
    → there.end_mark' ≡ there.end_mark
    → ((own : ℤ) (e e' : DeviceState) → is_above last unit ≡ true → others last unit own ≡ false → FinishedTo last own e e' → R' own e e')
    → ((e : DeviceState) → FinishedTo last unit e there.device → R' unit e there.device')
    → EachRow (OnDevice (FinishedTo last)) b b0
    → EachRow (OnDevice R') b a
changed-there last unit R' b b0 a R there next mark keeps here each =
    let o : Others last unit there.front there.back =
    others-none last unit there.front there.back there.device there.end_mark there.zero_blanks
    (subst (λ (rows : List Row). IsNext last (units_at rows) (Some unit)) there.was next) there.alone
    in subst (λ (rows : List Row). EachRow (OnDevice R') b rows)
    (sym (there.now ∙ ap (λ (m : Bool). there.front ++ Connects unit there.device' m there.zero_blanks ∷ there.back) mark))
    (rows-changed (FinishedTo last) R' (others last unit) unit there.device there.device' there.end_mark there.zero_blanks
    (λ own e e' none did. keeps own e e' o.above none did) here b there.front there.back o.front_none o.back_none
    (subst (λ (rows : List Row). EachRow (OnDevice (FinishedTo last)) b rows) there.was each))

-- a device that did not fail was finished, and its count of faults stands
was-finished :
    {m m' : Bool} (d d' : DeviceState) (n : ℕ) → FinishedOn d m d' m' (Ok n) → WasFinished d d'
was-finished d d' n did =
    record {
      told = did.finished.told;
      position = did.finished.position;
      finished = did.finished.finished;
      faults = stands d.faults d'.faults did.called.cause.later (λ rose. ok-failed (did.called.cause.rose rose));
      calls = did.called.counted;
    }
  where
    ok-failed : {x : ℕ} → (let r : Result ℕ UnitRefusal = Ok x in r) ≡ Err Failed → ⊥
    ok-failed is = cc

    stands : (x y : ℕ) → x ≤ y → ¬ (x < y) → y ≡ x
    stands x y later rose = omega arith

-- a device whose `finish` was refused failed
failed-to-finish :
    {m m' : Bool} (d d' : DeviceState) (refused : UnitRefusal) → FinishedOn d m d' m' (Err refused) → FailedToFinish d d'
failed-to-finish d d' Failed did =
    record {
      told = did.finished.told;
      position = did.finished.position;
      finished = did.finished.unfinished;
      later = did.called.cause.later;
      rose = did.called.cause.failed refl;
      calls = did.called.counted;
    }
failed-to-finish d d' NotConnected did = absurd did.refused
failed-to-finish d d' NotOffered did = absurd did.refused
failed-to-finish d d' Taken did = absurd did.refused
failed-to-finish d d' PastEnd did = absurd did.refused

-- the next unit is connected
next-connected : (last : Option ℤ) (unit : ℤ) (rows : List Row) → IsNext last (units_at rows) (Some unit) → is_connected unit rows ≡ true
next-connected last unit rows next = connected-among unit rows ∙ next.among

-- the next unit was finished
pub finished-step :
    (last : Option ℤ) (unit : ℤ) (b b0 a : List Row) (n : ℕ)
    → IsNext last (units_at b0) (Some unit)
    → OnUnit unit b0 a (let r : Result ℕ UnitRefusal = Ok n in r) (λ d m d' m'. FinishedOn d m d' m' (Ok n))
    → EachRow (OnDevice (FinishedTo last)) b b0
    → EachRow (OnDevice (FinishedTo (Some unit))) b a
finished-step last unit b b0 a n next on each =
    let there : AtUnit unit b0 a (λ d m d' m'. FinishedOn d m d' m' (Ok n)) = on.found (next-connected last unit b0 next)
    in changed-there last unit (FinishedTo (Some unit)) b b0 a (λ d m d' m'. FinishedOn d m d' m' (Ok n)) there next there.did.mark
    (λ own e e' above none did.
    let parts : (int_eq own unit ≡ false) × ((is_above last own && lt_z own unit) ≡ false) =
    or-parts (int_eq own unit) (is_above last own && lt_z own unit) none
    in record {
      done = λ over. did.done (not-between (is_above last own) (lt_z own unit) parts.1 (other-side own unit over parts.0));
      todo = λ more. did.todo (above-through last unit own above more);
    })
    (λ e did.
    let d : WasFinished there.device there.device' = was-finished there.device there.device' n there.did
    in record {
      done = λ _. subst (λ (x : DeviceState). WasFinished x there.device') (did.todo next.above) d;
      todo = λ more. absurd (true-false (sym more ∙ less-self unit));
    })
    each
  where
    other-side : (x y : ℤ) → lt_z y x ≡ false → int_eq x y ≡ false → lt_z x y ≡ true
    other-side x y a b = grind (arith, ints)

-- the device of the next unit failed
failing-step :
    (last : Option ℤ) (unit : ℤ) (b b0 a : List Row) (refused : UnitRefusal)
    → IsNext last (units_at b0) (Some unit)
    → OnUnit unit b0 a (let r : Result ℕ UnitRefusal = Err refused in r) (λ d m d' m'. FinishedOn d m d' m' (Err refused))
    → EachRow (OnDevice (FinishedTo last)) b b0
    → EachRow (OnDevice (FinishedUpTo unit)) b a
failing-step last unit b b0 a refused next on each =
    let there : AtUnit unit b0 a (λ d m d' m'. FinishedOn d m d' m' (Err refused)) = on.found (next-connected last unit b0 next)
    in changed-there last unit (FinishedUpTo unit) b b0 a (λ d m d' m'. FinishedOn d m d' m' (Err refused)) there next there.did.mark
    (λ own e e' above none did.
    let parts : (int_eq own unit ≡ false) × ((is_above last own && lt_z own unit) ≡ false) =
    or-parts (int_eq own unit) (is_above last own && lt_z own unit) none
    in record {
      before = λ less. did.done (not-between (is_above last own) (lt_z own unit) parts.1 (less-test own unit less));
      here = λ same. absurd (true-false (sym ((Decides-int_eq own unit).1 same) ∙ parts.0));
      behind = λ more. did.todo (above-through last unit own above (less-test unit own more));
    })
    (λ e did.
    let d : FailedToFinish there.device there.device' = failed-to-finish there.device there.device' refused there.did
    in record {
      before = λ less. absurd (true-false (sym (less-test unit unit less) ∙ less-self unit));
      here = λ _. subst (λ (x : DeviceState). FailedToFinish x there.device') (did.todo next.above) d;
      behind = λ more. absurd (true-false (sym (less-test unit unit more) ∙ less-self unit));
    })
    each
  where
    less-test : (x y : ℤ) → x <ℤ y → lt_z x y ≡ true
    less-test x y less = grind (arith, ints)

-- no unit is left above the last one
pub all-finished :
    (last : Option ℤ) (b a : List Row)
    → IsNext last (units_at a) None
    → EachRow (OnDevice (FinishedTo last)) b a
    → EachRow (OnDevice (λ own d d'. WasFinished d d')) b a
all-finished last b a next each =
    rows-weaker (FinishedTo last) (λ own d d'. WasFinished d d') (is_above last) (λ own e e' none did. did.done none) b a next each

-- each row keeps its unit
same-units : (R : ℤ → DeviceState → DeviceState → Type 0) (b a : List Row) → EachRow (OnDevice R) b a → units_at a ≡ units_at b
same-units R [] a each = ap units_at each
same-units R (x ∷ b) [] each = absurd each
same-units R (x ∷ b) (y ∷ a) each =
    units_at-append (y ∷ []) a
    ∙ ap (λ (us : List ℤ). us ++ units_at a) (one x y each.0)
    ∙ ap (λ (us : List ℤ). units_at (x ∷ []) ++ us) (same-units R b a each.1)
    ∙ sym (units_at-append (x ∷ []) b)
  where
    one : (r s : Row) → OnDevice R r s → units_at (s ∷ []) ≡ units_at (r ∷ [])
    one (Connects unit device m z) s on = unit-alone s unit on.device' m z on.is
    one (Offers name device) s on = ap (λ (t : Row). units_at (t ∷ [])) on
    one Closed s on = ap (λ (t : Row). units_at (t ∷ [])) on

-- a unit that is connected afterwards was connected before
still-connected :
    (R : ℤ → DeviceState → DeviceState → Type 0) (unit : ℤ) (b a : List Row)
    → EachRow (OnDevice R) b a
    → is_connected unit a ≡ true
    → is_connected unit b ≡ true
still-connected R unit b a each there =
    connected-among unit b
    ∙ ap (list_any (λ own. int_eq own unit)) (sym (same-units R b a each))
    ∙ sym (connected-among unit a)
    ∙ there

-- how many units are above the last one
abbrev pub above_count : Option ℤ → List ℤ → ℕ
above_count last [] = 0
above_count last (unit ∷ rest) = if is_above last unit then suc (above_count last rest) else above_count last rest

no-more : (a b : Bool) (m n : ℕ) → (a ≡ true → b ≡ true) → m ≤ n → (if a then suc m else m) ≤ (if b then suc n else n)
no-more true true m n less is = omega arith
no-more true false m n less is = absurd (cc (less refl))
no-more false true m n less is = omega arith
no-more false false m n less is = is

fewer : (a b : Bool) (m n : ℕ) → (a ≡ true → b ≡ true) → m < n → (if a then suc m else m) < (if b then suc n else n)
fewer true true m n less is = omega arith
fewer true false m n less is = absurd (cc (less refl))
fewer false true m n less is = omega arith
fewer false false m n less is = is

one-less : (a b : Bool) (m n : ℕ) → a ≡ false → b ≡ true → m ≤ n → (if a then suc m else m) < (if b then suc n else n)
one-less false true m n x y is = omega arith
one-less true b m n x y is = absurd (true-false x)
one-less false false m n x y is = absurd (true-false (sym y))

count-no-more :
    (last : Option ℤ) (unit : ℤ) (units : List ℤ)
    → is_above last unit ≡ true
    → above_count (Some unit) units ≤ above_count last units
count-no-more last unit [] above = omega arith
count-no-more last unit (own ∷ units) above =
    no-more (lt_z unit own) (is_above last own) (above_count (Some unit) units) (above_count last units)
    (above-through last unit own above) (count-no-more last unit units above)

-- fewer are above the next one
pub count-falls :
    (last : Option ℤ) (unit : ℤ) (units : List ℤ)
    → is_above last unit ≡ true
    → list_any (λ own. int_eq own unit) units ≡ true
    → above_count (Some unit) units < above_count last units
count-falls last unit [] above among = absurd (true-false (sym among))
count-falls last unit (own ∷ units) above among =
    by-test (int_eq own unit) refl among (λ found. count-falls last unit units above found)
  where
    by-test :
        (b : Bool) → int_eq own unit ≡ b → (b || list_any (λ x. int_eq x unit) units) ≡ true
        → (list_any (λ x. int_eq x unit) units ≡ true → above_count (Some unit) units < above_count last units)
        → above_count (Some unit) (own ∷ units) < above_count last (own ∷ units)
    by-test true is found rest =
        let same : unit ≡ own = sym ((Decides-int_eq own unit).0 is)
        in one-less (lt_z unit own) (is_above last own) (above_count (Some unit) units) (above_count last units)
        (sym (ap (lt_z unit) same) ∙ less-self unit) (sym (ap (is_above last) same) ∙ above)
        (count-no-more last unit units above)
    by-test false is found rest =
        fewer (lt_z unit own) (is_above last own) (above_count (Some unit) units) (above_count last units)
        (above-through last unit own above) (rest found)

-- the next unit of a table, as it is given to a call
pub as-given :
    {V : Type 0} {H : V → Type 0} (state : DynBox V Global H → DeviceState) (last : Option ℤ) (unit given : ℤ) (rows : List (declared.Row V H))
    → given ≡ unit
    → IsNext last (units_in rows) (Some unit)
    → IsNext last (units_at (map (shown state) rows)) (Some given)
as-given state last unit given rows same next =
    subst (λ (us : List ℤ). IsNext last us (Some given)) (sym (units-shown state rows))
    (subst (λ (u : ℤ). IsNext last (units_in rows) (Some u)) (sym same) next)

-- fewer units are left
pub table-falls :
    {V : Type 0} {H : V → Type 0} (state : DynBox V Global H → DeviceState) (last : Option ℤ) (unit given : ℤ) (b a : List (declared.Row V H)) (n : ℕ)
    → given ≡ unit
    → IsNext last (units_in b) (Some unit)
    → OnUnit given (map (shown state) b) (map (shown state) a) (let r : Result ℕ UnitRefusal = Ok n in r) (λ d m d' m'. FinishedOn d m d' m' (Ok n))
    → above_count (Some given) (units_in a) < above_count last (units_in b)
table-falls state last unit given b a n same next on =
    let units : units_in a ≡ units_in b =
    sym (units-shown state a) ∙ kept-units given (map (shown state) b) (map (shown state) a)
    (on.found (next-connected last given (map (shown state) b) (as-given state last unit given b same next))) ∙ units-shown state b
    in subst (λ (us : List ℤ). above_count (Some given) us < above_count last (units_in b)) (sym units)
    (subst (λ (u : ℤ). above_count (Some u) (units_in b) < above_count last (units_in b)) (sym same)
    (count-falls last unit (units_in b) next.above next.among))
  where
    kept-units :
        {R : DeviceState → Bool → DeviceState → Bool → Type 0} (u : ℤ) (x y : List Row) → AtUnit u x y R → units_at y ≡ units_at x
    kept-units u x y at =
        ap units_at at.now
        ∙ units_at-append at.front (Connects u at.device' at.end_mark' at.zero_blanks ∷ at.back)
        ∙ sym (units_at-append at.front (Connects u at.device at.end_mark at.zero_blanks ∷ at.back))
        ∙ sym (ap units_at at.was)

-- no unit of a table is left
pub all-next :
    {V : Type 0} {H : V → Type 0} (state : DynBox V Global H → DeviceState) (last : Option ℤ) (rows : List (declared.Row V H)) (next : Option ℤ)
    → ((unit : ℤ) → next ≡ Some unit → ⊥)
    → IsNext last (units_in rows) next
    → IsNext last (units_at (map (shown state) rows)) None
all-next state last rows None none is = subst (λ (us : List ℤ). IsNext last us None) (sym (units-shown state rows)) is
all-next state last rows (Some unit) none is = absurd (none unit refl)

-- the device of the next unit of a table failed
pub first-fault :
    {V : Type 0} {H : V → Type 0} (state : DynBox V Global H → DeviceState) (last : Option ℤ) (unit given : ℤ) (rows : List (declared.Row V H))
    (b a : List Row) (refused : UnitRefusal)
    → given ≡ unit
    → IsNext last (units_in rows) (Some unit)
    → OnUnit given (map (shown state) rows) a (let r : Result ℕ UnitRefusal = Err refused in r) (λ d m d' m'. FinishedOn d m d' m' (Err refused))
    → EachRow (OnDevice (FinishedTo last)) b (map (shown state) rows)
    → IsFirstFault given b a
first-fault state last unit given rows b a refused same next on each =
    let there : IsNext last (units_at (map (shown state) rows)) (Some given) = as-given state last unit given rows same next
    in record {
      connected =
          still-connected (FinishedTo last) given b (map (shown state) rows) each
          (next-connected last given (map (shown state) rows) there);
      rows = failing-step last given b (map (shown state) rows) a refused there on each;
    }
