-- The calls of the unit table mean what the statements on the units mean.
use Rattle.std.proofs.Common.{◌≡◌, ℕ, ◌+◌, ◌-◌, ◌≤◌, ℤ, Bool, true, false, ◌||◌, List, [], ◌∷◌, ◌++◌, length, take, drop, Option, Some, None, refl, ap, sym, ◌∙◌, subst}
use Rattle.std.specs.Prelude.{Result, Ok, Err, IfErr, IsErrOf, IsSome, OnOk, IfSome, IsSomeAnd, option_map, slice_get, unwrap_or, if◌then◌else◌}
use Rattle.std.specs.Ordering.{int_eq}
use Rattle.std.proofs.lemmas.Bool.Decides.{Decides-int_eq}
use mathlib.Core.Path.{fun_ext}
use Rattle.f2c_outside.specs.Device.{DeviceState, written_at}
use Rattle.f2c_outside.specs.Table.{Row, Offers, Connects, Closed, AtUnit, OnUnit, ReadFrom, WrittenTo, BackOn, RewoundOn, EndedOn, IsFailed, at_unit, is_connected}
use Rattle.run_state.specs.Units.{UnitState, Offered, Units, with_unit, with_record, unless_ended, one_back, read_at, write_at, back_at, rewind_at, end_at, read_unit, write_unit, back_unit, rewind_unit, end_unit, Reading, behind}
use Rattle.f2c_outside.specs.Meaning.{records_of, unit_of, connected_in, drawer_in, units_of, Tells, Means, MeansReading, ReadsAs}
use Rattle.run_state.specs.declared.refusals.UnitRefusal.{UnitRefusal}
use Rattle.run_state.specs.declared.refusals.UnitRefusal.TheVariants.{NotConnected, NotOffered, Taken, PastEnd, Failed}
use Rattle.f2c_outside.specs.declared.devices.Got.{Got}
use Rattle.f2c_outside.specs.declared.devices.Got.TheVariants.{Line, End, Long}
use Rattle.f2c_outside.specs.declared.devices.Got.TheVariants as got
use Rattle.std.proofs.lemmas.Option.{slice_get_past}
use Rattle.std.specs.Prelude.{IfOk}
use Rattle.f2c_outside.proofs.TableLaws.{none-front}
use Rattle.f2c_outside.specs.Table.{answered}
use Rattle.f2c_outside.proofs.StillTells.{still-tells, read-alike, back-alike}

pub chosen-true : {X : Type 0} (b : Bool) (x y : X) → b ≡ true → (if b then x else y) ≡ x
chosen-true true x y is = refl
chosen-true false x y is = absurd (cc)

pub chosen-false : {X : Type 0} (b : Bool) (x y : X) → b ≡ false → (if b then x else y) ≡ y
chosen-false false x y is = refl
chosen-false true x y is = absurd (cc)

pub or-false-left : (a b : Bool) → (a || b) ≡ false → a ≡ false
or-false-left false b is = refl
or-false-left true b is = is

pub or-false-right : (a b : Bool) → (a || b) ≡ false → b ≡ false
or-false-right false b is = is
or-false-right true b is = absurd (cc)

-- rows that are not connected to the unit are passed over
connected-behind :
    (front : List Row) (rest : List Row) (unit : ℤ)
    → is_connected unit front ≡ false
    → connected_in (front ++ rest) unit ≡ connected_in rest unit
connected-behind [] rest unit none = refl
connected-behind (Connects own device end_mark zero_blanks ∷ front) rest unit none =
    chosen-false (int_eq own unit) (Some (unit_of device end_mark zero_blanks)) (connected_in (front ++ rest) unit)
    (or-false-left (int_eq own unit) (is_connected unit front) none)
    ∙ connected-behind front rest unit (or-false-right (int_eq own unit) (is_connected unit front) none)
connected-behind (Offers name device ∷ front) rest unit none = connected-behind front rest unit none
connected-behind (Closed ∷ front) rest unit none = connected-behind front rest unit none

-- the state of the unit of a row
pub unit-there :
    (front back : List Row) (unit : ℤ) (device : DeviceState) (m z : Bool)
    → is_connected unit front ≡ false
    → connected_in (front ++ Connects unit device m z ∷ back) unit ≡ Some (unit_of device m z)
unit-there front back unit device m z none =
    connected-behind front (Connects unit device m z ∷ back) unit none
    ∙ chosen-true (int_eq unit unit) (Some (unit_of device m z)) (connected_in back unit) ((Decides-int_eq unit unit).1 refl)

-- the same number on the other side
flip-true : (x y : ℤ) → int_eq x y ≡ true → int_eq y x ≡ true
flip-true x y is = (Decides-int_eq y x).1 (sym ((Decides-int_eq x y).0 is))

flip-false-of : (x y : ℤ) (b : Bool) → int_eq y x ≡ b → int_eq x y ≡ false → b ≡ false
flip-false-of x y false is differ = refl
flip-false-of x y true is differ = let same : int_eq x y ≡ true = flip-true y x is in absurd (cc)

-- any other unit is as before
other-unit :
    (front back : List Row) (unit asked : ℤ) (device device' : DeviceState) (m m' z : Bool)
    → int_eq asked unit ≡ false
    → connected_in (front ++ Connects unit device' m' z ∷ back) asked ≡ connected_in (front ++ Connects unit device m z ∷ back) asked
other-unit [] back unit asked device device' m m' z differ =
    let skip : int_eq unit asked ≡ false = flip-false-of asked unit (int_eq unit asked) refl differ
    in chosen-false (int_eq unit asked) (Some (unit_of device' m' z)) (connected_in back asked) skip
    ∙ sym (chosen-false (int_eq unit asked) (Some (unit_of device m z)) (connected_in back asked) skip)
other-unit (Connects own d e b ∷ front) back unit asked device device' m m' z differ =
    ap (λ (rest : Option UnitState). if int_eq own asked then Some (unit_of d e b) else rest)
    (other-unit front back unit asked device device' m m' z differ)
other-unit (Offers name d ∷ front) back unit asked device device' m m' z differ =
    other-unit front back unit asked device device' m m' z differ
other-unit (Closed ∷ front) back unit asked device device' m m' z differ =
    other-unit front back unit asked device device' m m' z differ

pointwise :
    (front back : List Row) (unit : ℤ) (device device' : DeviceState) (m m' z : Bool) (asked : ℤ) (b : Bool)
    → is_connected unit front ≡ false
    → int_eq asked unit ≡ b
    → connected_in (front ++ Connects unit device' m' z ∷ back) asked
    ≡ (if b then Some (unit_of device' m' z) else connected_in (front ++ Connects unit device m z ∷ back) asked)
pointwise front back unit device device' m m' z asked false none is = other-unit front back unit asked device device' m m' z is
pointwise front back unit device device' m m' z asked true none is =
    let same : asked ≡ unit = (Decides-int_eq asked unit).0 is
    in subst (λ (u : ℤ). connected_in (front ++ Connects unit device' m' z ∷ back) u ≡ Some (unit_of device' m' z)) (sym same)
    (unit-there front back unit device' m' z none)

drawer-same :
    (front back : List Row) (unit : ℤ) (device device' : DeviceState) (m m' z : Bool)
    → drawer_in (front ++ Connects unit device' m' z ∷ back) ≡ drawer_in (front ++ Connects unit device m z ∷ back)
drawer-same [] back unit device device' m m' z = refl
drawer-same (Connects own d e b ∷ front) back unit device device' m m' z = drawer-same front back unit device device' m m' z
drawer-same (Closed ∷ front) back unit device device' m m' z = drawer-same front back unit device device' m m' z
drawer-same (Offers name d ∷ front) back unit device device' m m' z =
    ap (λ (rest : List Offered). record { name = name; records = records_of d; position = d.position } ∷ rest)
    (drawer-same front back unit device device' m m' z)

-- one row changed, and so one unit did
pub units-changed :
    (front back : List Row) (unit : ℤ) (device device' : DeviceState) (m m' z : Bool)
    → is_connected unit front ≡ false
    → units_of (front ++ Connects unit device' m' z ∷ back)
    ≡ with_unit unit (Some (unit_of device' m' z)) (units_of (front ++ Connects unit device m z ∷ back))
units-changed front back unit device device' m m' z none =
    both
    (fun_ext (λ asked. pointwise front back unit device device' m m' z asked (int_eq asked unit) none refl))
    (drawer-same front back unit device device' m m' z)
  where
    both :
        {f g : ℤ → Option UnitState} {d e : List Offered}
        → f ≡ g → d ≡ e
        → (let u : Units = record { connected = f; drawer = d } in u) ≡ record { connected = g; drawer = e }
    both p q = cc

-- the device of a connected row tells
pub told-there :
    (front back : List Row) (unit : ℤ) (device : DeviceState) (m z : Bool)
    → Tells (front ++ Connects unit device m z ∷ back)
    → IsSome device.told
told-there [] back unit device m z tells = tells.0
told-there (Connects own d e b ∷ front) back unit device m z tells = told-there front back unit device m z tells.1
told-there (Offers name d ∷ front) back unit device m z tells = told-there front back unit device m z tells.1
told-there (Closed ∷ front) back unit device m z tells = told-there front back unit device m z tells

-- no row is connected to the unit
pub connected-none : (rows : List Row) (unit : ℤ) → is_connected unit rows ≡ false → connected_in rows unit ≡ None
connected-none [] unit none = refl
connected-none (Connects own device m z ∷ rest) unit none =
    chosen-false (int_eq own unit) (Some (unit_of device m z)) (connected_in rest unit)
    (or-false-left (int_eq own unit) (is_connected unit rest) none)
    ∙ connected-none rest unit (or-false-right (int_eq own unit) (is_connected unit rest) none)
connected-none (Offers name device ∷ rest) unit none = connected-none rest unit none
connected-none (Closed ∷ rest) unit none = connected-none rest unit none

-- what the change of a row means
record Change (unit : ℤ) (b a : List Row) (R : DeviceState → Bool → DeviceState → Bool → Type 0) : Type 0 where
  device : DeviceState
  device' : DeviceState
  end_mark : Bool
  end_mark' : Bool
  zero_blanks : Bool
  was : connected_in b unit ≡ Some (unit_of device end_mark zero_blanks)
  now : units_of a ≡ with_unit unit (Some (unit_of device' end_mark' zero_blanks)) (units_of b)
  tells : IsSome device.told
  did : R device end_mark device' end_mark'

change :
    (unit : ℤ) (b a : List Row) (R : DeviceState → Bool → DeviceState → Bool → Type 0)
    → AtUnit unit b a R
    → Tells b
    → Change unit b a R
change unit b a R at tells =
    let none : is_connected unit at.front ≡ false = none-front (at_unit unit) at.front at.back at.alone
    in record {
      device = at.device;
      device' = at.device';
      end_mark = at.end_mark;
      end_mark' = at.end_mark';
      zero_blanks = at.zero_blanks;
      was =
          ap (λ (rows : List Row). connected_in rows unit) at.was
          ∙ unit-there at.front at.back unit at.device at.end_mark at.zero_blanks none;
      now =
          ap units_of at.now
          ∙ units-changed at.front at.back unit at.device at.device' at.end_mark at.end_mark' at.zero_blanks none
          ∙ ap (λ (rows : List Row). with_unit unit (Some (unit_of at.device' at.end_mark' at.zero_blanks)) (units_of rows)) (sym at.was);
      tells = told-there at.front at.back unit at.device at.end_mark at.zero_blanks (subst Tells at.was tells);
      did = at.did;
    }

-- a call that was not refused as not connected was on a connected unit
on-there :
    {T : Type 0} (unit : ℤ) (b a : List Row) (result : Result T UnitRefusal) (R : DeviceState → Bool → DeviceState → Bool → Type 0)
    → OnUnit unit b a result R
    → ¬ IsErrOf result NotConnected
    → AtUnit unit b a R
on-there unit b a result R on not_missing = by-cases (is_connected unit b) refl
  where
    by-cases : (there : Bool) → is_connected unit b ≡ there → AtUnit unit b a R
    by-cases true is = on.found is
    by-cases false is = absurd (not_missing (on.refused.1 is))

past-missing : {T : Type 0} (result : Result T UnitRefusal) → IsErrOf result PastEnd → ¬ IsErrOf result NotConnected
past-missing result is wrong = cc

ok-not : {T : Type 0} {x : T} (refused : UnitRefusal) → (let r : Result T UnitRefusal = Ok x in r) ≡ Err refused → ⊥
ok-not refused is = cc

mapped : (f : List (List ℕ) → List (List ℕ)) (told : Option (List (List ℕ))) → IsSome told → unwrap_or (option_map f told) [] ≡ f (unwrap_or told [])
mapped f (Some records) some = refl
mapped f None some = absurd (cc)

same-unit :
    (r r' : List (List ℕ)) (p p' : ℕ) (m m' z : Bool)
    → r ≡ r' → p ≡ p' → m ≡ m'
    → (let u : UnitState = record { records = r; position = p; end_mark = m; zero_blanks = z } in u)
    ≡ record { records = r'; position = p'; end_mark = m'; zero_blanks = z }
same-unit r r' p p' m m' z x y w = cc

unmarked : {T : Type 0} (x : T) (m : Bool) → (IsErrOf (let r : Result T UnitRefusal = Ok x in r) PastEnd → m ≡ true) × (m ≡ true → (let r : Result T UnitRefusal = Ok x in r) ≡ Err PastEnd) → m ≡ false
unmarked x false past = refl
unmarked x true past = absurd (ok-not PastEnd (past.1 refl))

-- what `unless_ended` gives
ended-true : (mark : Bool) (units : Units) → mark ≡ true → unless_ended mark units ≡ Err PastEnd
ended-true true units is = refl
ended-true false units is = absurd (cc)

ended-false : (mark : Bool) (units : Units) → mark ≡ false → unless_ended mark units ≡ Ok units
ended-false false units is = refl
ended-false true units is = absurd (cc)

-- the units after the change, where the state of the unit is known
now-is :
    (unit : ℤ) (b a : List Row) (device' : DeviceState) (m' z : Bool) (state : UnitState)
    → units_of a ≡ with_unit unit (Some (unit_of device' m' z)) (units_of b)
    → state ≡ unit_of device' m' z
    → with_unit unit (Some state) (units_of b) ≡ units_of a
now-is unit b a device' m' z state now same = ap (λ (s : UnitState). with_unit unit (Some s) (units_of b)) same ∙ sym now

-- writing means writing
pub write-means :
    {T : Type 0} (unit : ℤ) (bytes : List ℕ) (b a : List Row) (result : Result T UnitRefusal)
    → OnUnit unit b a result (λ d m d' m'. WrittenTo d m d' m' bytes result)
    → Tells b
    → Means result (write_unit unit bytes (units_of b)) a
unfolding write_unit
write-means {T = T} unit bytes b a result on tells =
    record {
      tells =
          still-tells unit b a result (λ d m d' m'. WrittenTo d m d' m' bytes result) on
          (λ d d' m m' did. did.wrote.tells) tells;
      done = by-result result on;
      missing = λ is. ap (λ (s : Option UnitState). write_at unit bytes s (units_of b)) (connected-none b unit (on.refused.0 is));
      past =
          λ is.
          let c : Change unit b a (λ d m d' m'. WrittenTo d m d' m' bytes result) =
          change unit b a (λ d m d' m'. WrittenTo d m d' m' bytes result)
          (on-there unit b a result (λ d m d' m'. WrittenTo d m d' m' bytes result) on (past-missing result is)) tells
          in ap (λ (s : Option UnitState). write_at unit bytes s (units_of b)) c.was
          ∙ ended-true c.end_mark
          (with_unit unit (Some (with_record bytes (unit_of c.device c.end_mark c.zero_blanks))) (units_of b)) (c.did.past.0 is);
    }
  where
    by-result :
        (answer : Result T UnitRefusal)
        → OnUnit unit b a answer (λ d m d' m'. WrittenTo d m d' m' bytes answer)
        → OnOk answer (write_at unit bytes (connected_in b unit) (units_of b) ≡ Ok (units_of a))
    by-result (Err refused) there = tt
    by-result (Ok x) there =
        let c : Change unit b a (λ d m d' m'. WrittenTo d m d' m' bytes (Ok x)) =
        change unit b a (λ d m d' m'. WrittenTo d m d' m' bytes (Ok x))
        (on-there unit b a (Ok x) (λ d m d' m'. WrittenTo d m d' m' bytes (Ok x)) there (ok-not NotConnected)) tells
        in let m : c.end_mark ≡ false = unmarked x c.end_mark c.did.past
        in ap (λ (s : Option UnitState). write_at unit bytes s (units_of b)) c.was
        ∙ ended-false c.end_mark
        (with_unit unit (Some (with_record bytes (unit_of c.device c.end_mark c.zero_blanks))) (units_of b)) m
        ∙ ap Ok
        (now-is unit b a c.device' c.end_mark' c.zero_blanks (with_record bytes (unit_of c.device c.end_mark c.zero_blanks)) c.now
        (same-unit (written_at c.device.position bytes (records_of c.device)) (records_of c.device') (c.device.position + 1)
        c.device'.position c.end_mark c.end_mark' c.zero_blanks
        (sym (mapped (written_at c.device.position bytes) c.device.told c.tells) ∙ sym (ap (λ (o : Option (List (List ℕ))). unwrap_or o []) c.did.wrote.told))
        (sym c.did.wrote.position) (sym c.did.mark)))

-- ending a file means ending it
pub end-means :
    {T : Type 0} (unit : ℤ) (b a : List Row) (result : Result T UnitRefusal)
    → OnUnit unit b a result (λ d m d' m'. EndedOn d m d' m' result)
    → Tells b
    → Means result (end_unit unit (units_of b)) a
unfolding end_unit
end-means {T = T} unit b a result on tells =
    record {
      tells =
          still-tells unit b a result (λ d m d' m'. EndedOn d m d' m' result) on
          (λ d d' m m' did. did.ended.tells) tells;
      done = by-result result on;
      missing = λ is. ap (λ (s : Option UnitState). end_at unit s (units_of b)) (connected-none b unit (on.refused.0 is));
      past =
          λ is.
          let c : Change unit b a (λ d m d' m'. EndedOn d m d' m' result) =
          change unit b a (λ d m d' m'. EndedOn d m d' m' result)
          (on-there unit b a result (λ d m d' m'. EndedOn d m d' m' result) on (past-missing result is)) tells
          in ap (λ (s : Option UnitState). end_at unit s (units_of b)) c.was
          ∙ ended-true c.end_mark
          (with_unit unit (Some (unit_of (record c.device { told = Some (take c.device.position (records_of c.device)) }) true c.zero_blanks)) (units_of b))
          (c.did.past.0 is);
    }
  where
    by-result :
        (answer : Result T UnitRefusal)
        → OnUnit unit b a answer (λ d m d' m'. EndedOn d m d' m' answer)
        → OnOk answer (end_at unit (connected_in b unit) (units_of b) ≡ Ok (units_of a))
    by-result (Err refused) there = tt
    by-result (Ok x) there =
        let c : Change unit b a (λ d m d' m'. EndedOn d m d' m' (Ok x)) =
        change unit b a (λ d m d' m'. EndedOn d m d' m' (Ok x))
        (on-there unit b a (Ok x) (λ d m d' m'. EndedOn d m d' m' (Ok x)) there (ok-not NotConnected)) tells
        in let state : UnitState =
        unit_of (record c.device { told = Some (take c.device.position (records_of c.device)) }) true c.zero_blanks
        in ap (λ (s : Option UnitState). end_at unit s (units_of b)) c.was
        ∙ ended-false c.end_mark (with_unit unit (Some state) (units_of b)) (unmarked x c.end_mark c.did.past)
        ∙ ap Ok
        (now-is unit b a c.device' c.end_mark' c.zero_blanks state c.now
        (same-unit (take c.device.position (records_of c.device)) (records_of c.device') c.device.position c.device'.position
        true c.end_mark' c.zero_blanks
        (sym (mapped (take c.device.position) c.device.told c.tells) ∙ sym (ap (λ (o : Option (List (List ℕ))). unwrap_or o []) c.did.ended.told))
        (sym c.did.ended.position) (sym c.did.set)))

never-past : {T : Type 0} (result : Result T UnitRefusal) → IfErr result IsFailed → ¬ IsErrOf result PastEnd
never-past (Ok x) only wrong = cc
never-past (Err PastEnd) only wrong = only
never-past (Err NotConnected) only wrong = cc
never-past (Err NotOffered) only wrong = cc
never-past (Err Taken) only wrong = cc
never-past (Err Failed) only wrong = cc

-- rewinding means rewinding
pub rewind-means :
    {T : Type 0} (unit : ℤ) (b a : List Row) (result : Result T UnitRefusal)
    → OnUnit unit b a result (λ d m d' m'. RewoundOn d m d' m' result)
    → Tells b
    → Means result (rewind_unit unit (units_of b)) a
unfolding rewind_unit
rewind-means {T = T} unit b a result on tells =
    record {
      tells =
          still-tells unit b a result (λ d m d' m'. RewoundOn d m d' m' result) on
          (λ d d' m m' did. did.rewound.tells) tells;
      done = by-result result on;
      missing = λ is. ap (λ (s : Option UnitState). rewind_at unit s (units_of b)) (connected-none b unit (on.refused.0 is));
      past =
          λ is.
          let c : Change unit b a (λ d m d' m'. RewoundOn d m d' m' result) =
          change unit b a (λ d m d' m'. RewoundOn d m d' m' result)
          (on-there unit b a result (λ d m d' m'. RewoundOn d m d' m' result) on (past-missing result is)) tells
          in absurd (never-past result c.did.refused is);
    }
  where
    by-result :
        (answer : Result T UnitRefusal)
        → OnUnit unit b a answer (λ d m d' m'. RewoundOn d m d' m' answer)
        → OnOk answer (rewind_at unit (connected_in b unit) (units_of b) ≡ Ok (units_of a))
    by-result (Err refused) there = tt
    by-result (Ok x) there =
        let c : Change unit b a (λ d m d' m'. RewoundOn d m d' m' (Ok x)) =
        change unit b a (λ d m d' m'. RewoundOn d m d' m' (Ok x))
        (on-there unit b a (Ok x) (λ d m d' m'. RewoundOn d m d' m' (Ok x)) there (ok-not NotConnected)) tells
        in ap (λ (s : Option UnitState). rewind_at unit s (units_of b)) c.was
        ∙ ap Ok
        (now-is unit b a c.device' c.end_mark' c.zero_blanks (unit_of (record c.device { position = 0 }) false c.zero_blanks) c.now
        (same-unit (records_of c.device) (records_of c.device') 0 c.device'.position false c.end_mark' c.zero_blanks
        (sym (ap (λ (o : Option (List (List ℕ))). unwrap_or o []) c.did.rewound.told))
        (sym c.did.rewound.position) (sym c.did.cleared)))

-- going back means backspacing
pub back-means :
    {T : Type 0} (unit : ℤ) (b a : List Row) (result : Result T UnitRefusal)
    → OnUnit unit b a result (λ d m d' m'. BackOn d m d' m' result)
    → Tells b
    → Means result (back_unit unit (units_of b)) a
unfolding back_unit
back-means {T = T} unit b a result on tells =
    record {
      tells =
          still-tells unit b a result (λ d m d' m'. BackOn d m d' m' result) on
          (λ d d' m m' did. back-alike result d d' m m' did) tells;
      done = by-result result on;
      missing = λ is. ap (λ (s : Option UnitState). back_at unit s (units_of b)) (connected-none b unit (on.refused.0 is));
      past =
          λ is.
          let c : Change unit b a (λ d m d' m'. BackOn d m d' m' result) =
          change unit b a (λ d m d' m'. BackOn d m d' m' result)
          (on-there unit b a result (λ d m d' m'. BackOn d m d' m' result) on (past-missing result is)) tells
          in absurd (never-past result c.did.refused is);
    }
  where
    by-mark :
        (x : T) (d d' : DeviceState) (m m' z mark : Bool)
        → m ≡ mark
        → BackOn d m d' m' (Ok x)
        → one_back mark (unit_of d m z) ≡ unit_of d' m' z
    by-mark x d d' m m' z true is did =
        same-unit (records_of d) (records_of d') d.position d'.position false m' z
        (sym (ap records_of (did.marked is).0)) (sym (ap (λ (s : DeviceState). s.position) (did.marked is).0)) (sym did.mark)
    by-mark x d d' m m' z false is did =
        same-unit (records_of d) (records_of d') (d.position - 1) d'.position m m' z
        (sym (ap (λ (o : Option (List (List ℕ))). unwrap_or o []) (did.unmarked is).told)) (sym (did.unmarked is).position)
        (is ∙ sym did.mark)

    by-result :
        (answer : Result T UnitRefusal)
        → OnUnit unit b a answer (λ d m d' m'. BackOn d m d' m' answer)
        → OnOk answer (back_at unit (connected_in b unit) (units_of b) ≡ Ok (units_of a))
    by-result (Err refused) there = tt
    by-result (Ok x) there =
        let c : Change unit b a (λ d m d' m'. BackOn d m d' m' (Ok x)) =
        change unit b a (λ d m d' m'. BackOn d m d' m' (Ok x))
        (on-there unit b a (Ok x) (λ d m d' m'. BackOn d m d' m' (Ok x)) there (ok-not NotConnected)) tells
        in ap (λ (s : Option UnitState). back_at unit s (units_of b)) c.was
        ∙ ap Ok
        (now-is unit b a c.device' c.end_mark' c.zero_blanks
        (one_back c.end_mark (unit_of c.device c.end_mark c.zero_blanks)) c.now
        (by-mark x c.device c.device' c.end_mark c.end_mark' c.zero_blanks c.end_mark refl c.did))

-- the record at the position of a device that tells
record LineAt (records : List (List ℕ)) (position : ℕ) (P : List ℕ → Type 0) : Type 0 where
  line : List ℕ
  at : slice_get records position ≡ Some line
  holds : P line

line-in : (found : Option (List ℕ)) (P : List ℕ → Type 0) → IsSomeAnd found P → (line : List ℕ) × (found ≡ Some line) × P line
line-in (Some line) P holds = (line, refl, holds)
line-in None P holds = absurd holds

line-at :
    (told : Option (List (List ℕ))) (position : ℕ) (P : List ℕ → Type 0)
    → IsSome told
    → IfSome told (λ records. IsSomeAnd (slice_get records position) P)
    → LineAt (unwrap_or told []) position P
line-at (Some records) position P some holds =
    let found : (line : List ℕ) × (slice_get records position ≡ Some line) × P line = line-in (slice_get records position) P holds
    in record { line = found.0; at = found.1; holds = found.2 }
line-at None position P some holds = absurd (cc)

end-at :
    (told : Option (List (List ℕ))) (position : ℕ)
    → IsSome told
    → IfSome told (λ records. length records ≤ position)
    → slice_get (unwrap_or told []) position ≡ None
end-at (Some records) position some past = slice_get_past records position past
end-at None position some past = absurd (cc)

abbrev ok_reading : Reading → Result Reading UnitRefusal
ok_reading reading = Ok reading

-- what reading finds, and the units after it
read-is :
    (unit : ℤ) (b a : List Row) (d d' : DeviceState) (m m' z : Bool) (found : Option (List ℕ))
    → connected_in b unit ≡ Some (unit_of d m z)
    → units_of a ≡ with_unit unit (Some (unit_of d' m' z)) (units_of b)
    → slice_get (records_of d) d.position ≡ found
    → behind found (unit_of d m z) ≡ unit_of d' m' z
    → read_at unit (connected_in b unit) (units_of b) ≡ Ok (record { found = found; after = units_of a })
read-is unit b a d d' m m' z found was now at state =
    ap (λ (s : Option UnitState). read_at unit s (units_of b)) was
    ∙ ap
    (λ (f : Option (List ℕ)).
    let r : Reading = record { found = f; after = with_unit unit (Some (behind f (unit_of d m z))) (units_of b) } in ok_reading r)
    at
    ∙ ap (λ (u : Units). let r : Reading = record { found = found; after = u } in ok_reading r)
    (now-is unit b a d' m' z (behind found (unit_of d m z)) now state)

-- reading means reading
pub read-means :
    (unit : ℤ) (b a : List Row) (old new : List ℕ) (result : Result Got UnitRefusal)
    → OnUnit unit b a result (λ d m d' m'. ReadFrom d m d' m' old new result)
    → Tells b
    → MeansReading result (read_unit unit (units_of b)) a old new
unfolding read_unit
read-means unit b a old new result on tells =
    record {
      tells =
          still-tells unit b a result (λ d m d' m'. ReadFrom d m d' m' old new result) on
          (λ d d' m m' did. read-alike (answered result) d d' old new did.read) tells;
      done = by-result result on;
      missing = λ is. ap (λ (s : Option UnitState). read_at unit s (units_of b)) (connected-none b unit (on.refused.0 is));
    }
  where
    changed : (got : Got) → OnUnit unit b a (let r : Result Got UnitRefusal = Ok got in r) (λ d m d' m'. ReadFrom d m d' m' old new (Ok got)) → Change unit b a (λ d m d' m'. ReadFrom d m d' m' old new (Ok got))
    changed got there =
        change unit b a (λ d m d' m'. ReadFrom d m d' m' old new (Ok got))
        (on-there unit b a (Ok got) (λ d m d' m'. ReadFrom d m d' m' old new (Ok got)) there (ok-not NotConnected)) tells

    moved : (d d' : DeviceState) (m m' z : Bool) → d'.told ≡ d.told → d'.position ≡ d.position + 1 → m' ≡ m → (line : List ℕ) → behind (Some line) (unit_of d m z) ≡ unit_of d' m' z
    moved d d' m m' z told position mark line =
        same-unit (records_of d) (records_of d') (d.position + 1) d'.position m m' z
        (sym (ap (λ (o : Option (List (List ℕ))). unwrap_or o []) told)) (sym position) (sym mark)

    by-result :
        (answer : Result Got UnitRefusal)
        → OnUnit unit b a answer (λ d m d' m'. ReadFrom d m d' m' old new answer)
        → IfOk answer (λ got. ReadsAs got (read_at unit (connected_in b unit) (units_of b)) (units_of a) old new)
    by-result (Err refused) there = tt
    by-result (Ok got.Failed) there = tt
    by-result (Ok (Line n)) there =
        let c : Change unit b a (λ d m d' m'. ReadFrom d m d' m' old new (Ok (Line n))) = changed (Line n) there
        in let l : LineAt (records_of c.device) c.device.position (λ line. (length line ≡ n) × (new ≡ line ++ drop n old)) =
        line-at c.device.told c.device.position (λ line. (length line ≡ n) × (new ≡ line ++ drop n old)) c.tells
        c.did.read.bytes
        in record {
          line = l.line;
          is =
              read-is unit b a c.device c.device' c.end_mark c.end_mark' c.zero_blanks (Some l.line) c.was c.now l.at
              (moved c.device c.device' c.end_mark c.end_mark' c.zero_blanks c.did.read.told c.did.read.position c.did.mark l.line);
          holds = l.holds;
        }
    by-result (Ok (Long n)) there =
        let c : Change unit b a (λ d m d' m'. ReadFrom d m d' m' old new (Ok (Long n))) = changed (Long n) there
        in let l : LineAt (records_of c.device) c.device.position (λ line. length line ≡ n) =
        line-at c.device.told c.device.position (λ line. length line ≡ n) c.tells c.did.read.bytes
        in record {
          line = l.line;
          is =
              read-is unit b a c.device c.device' c.end_mark c.end_mark' c.zero_blanks (Some l.line) c.was c.now l.at
              (moved c.device c.device' c.end_mark c.end_mark' c.zero_blanks c.did.read.told c.did.read.position c.did.mark l.line);
          holds = (l.holds, c.did.read.longer);
        }
    by-result (Ok End) there =
        let c : Change unit b a (λ d m d' m'. ReadFrom d m d' m' old new (Ok End)) = changed End there
        in read-is unit b a c.device c.device' c.end_mark c.end_mark' c.zero_blanks None c.was c.now
        (end-at c.device.told c.device.position c.tells c.did.read.at_end)
        (same-unit (records_of c.device) (records_of c.device') c.device.position c.device'.position true c.end_mark'
        c.zero_blanks
        (sym (ap (λ (o : Option (List (List ℕ))). unwrap_or o []) c.did.read.told))
        (sym c.did.read.position) (sym c.did.mark))
