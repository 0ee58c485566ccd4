-- After each call of a unit table every device tells its records, where every device did before it.
use Rattle.std.proofs.Common.{◌≡◌, ℕ, ℤ, Bool, true, false, List, [], ◌∷◌, ◌++◌, Option, is_some, refl, ap, sym, ◌∙◌, subst}
use Rattle.std.specs.Prelude.{Result, Ok, Err}
use Rattle.f2c_outside.specs.Device.{DeviceState, TellsAlike, DidRead}
use Rattle.f2c_outside.specs.Table.{Row, Offers, Connects, Closed, AtUnit, OnUnit, BackOn, ClosedUnit, OpenedUnit, is_connected}
use Rattle.f2c_outside.specs.Meaning.{Tells}
use Rattle.f2c_outside.specs.declared.devices.Got.{Got}
use Rattle.f2c_outside.specs.declared.devices.Got.TheVariants as got
use Rattle.f2c_outside.specs.declared.unit_table.Closed as declared
use Rattle.run_state.specs.declared.refusals.UnitRefusal.{UnitRefusal}
use Rattle.run_state.specs.declared.refusals.UnitRefusal.TheVariants.{NotConnected, NotOffered, Taken, PastEnd, Failed}

alike-told : (d d' : DeviceState) → d'.told ≡ d.told → TellsAlike d d'
alike-told d d' same = ap (λ (o : Option (List (List ℕ))). is_some o) same

alike-same : (d d' : DeviceState) → d' ≡ d → TellsAlike d d'
alike-same d d' same = ap (λ (s : DeviceState). is_some s.told) same

-- the device of one row changed, and tells as before
tells-changed :
    (front back : List Row) (unit : ℤ) (device device' : DeviceState) (m m' z : Bool)
    → TellsAlike device device'
    → Tells (front ++ Connects unit device m z ∷ back)
    → Tells (front ++ Connects unit device' m' z ∷ back)
tells-changed [] back unit device device' m m' z alike tells = (alike ∙ tells.0, tells.1)
tells-changed (Connects own d e b ∷ front) back unit device device' m m' z alike tells =
    (tells.0, tells-changed front back unit device device' m m' z alike tells.1)
tells-changed (Offers name d ∷ front) back unit device device' m m' z alike tells =
    (tells.0, tells-changed front back unit device device' m m' z alike tells.1)
tells-changed (Closed ∷ front) back unit device device' m m' z alike tells =
    tells-changed front back unit device device' m m' z alike tells

tells-closed :
    (front back : List Row) (unit : ℤ) (device : DeviceState) (m z : Bool)
    → Tells (front ++ Connects unit device m z ∷ back)
    → Tells (front ++ Closed ∷ back)
tells-closed [] back unit device m z tells = tells.1
tells-closed (Connects own d e b ∷ front) back unit device m z tells = (tells.0, tells-closed front back unit device m z tells.1)
tells-closed (Offers name d ∷ front) back unit device m z tells = (tells.0, tells-closed front back unit device m z tells.1)
tells-closed (Closed ∷ front) back unit device m z tells = tells-closed front back unit device m z tells

tells-opened :
    (front back : List Row) (unit : ℤ) (name : List ℕ) (device : DeviceState) (z : Bool)
    → Tells (front ++ Offers name device ∷ back)
    → Tells (front ++ Connects unit device false z ∷ back)
tells-opened [] back unit name device z tells = tells
tells-opened (Connects own d e b ∷ front) back unit name device z tells = (tells.0, tells-opened front back unit name device z tells.1)
tells-opened (Offers other d ∷ front) back unit name device z tells = (tells.0, tells-opened front back unit name device z tells.1)
tells-opened (Closed ∷ front) back unit name device z tells = tells-opened front back unit name device z tells

-- a call on a unit whose device tells as before
pub still-tells :
    {T : Type 0} (unit : ℤ) (b a : List Row) (result : Result T UnitRefusal) (R : DeviceState → Bool → DeviceState → Bool → Type 0)
    → OnUnit unit b a result R
    → ((d d' : DeviceState) (m m' : Bool) → R d m d' m' → TellsAlike d d')
    → Tells b
    → Tells a
still-tells unit b a result R on alike tells = by-test (is_connected unit b) refl
  where
    by-test : (connected : Bool) → is_connected unit b ≡ connected → Tells a
    by-test false is = subst Tells (sym (on.missing is)) tells
    by-test true is =
        let at : AtUnit unit b a R = on.found is
        in subst Tells (sym at.now)
        (tells-changed at.front at.back unit at.device at.device' at.end_mark at.end_mark' at.zero_blanks
        (alike at.device at.device' at.end_mark at.end_mark' at.did) (subst Tells at.was tells))

pub read-alike : (answer : Got) (d d' : DeviceState) (old new : List ℕ) → DidRead answer d d' old new → TellsAlike d d'
read-alike (got.Line n) d d' old new did = alike-told d d' did.told
read-alike (got.Long n) d d' old new did = alike-told d d' did.told
read-alike got.End d d' old new did = alike-told d d' did.told
read-alike got.Failed d d' old new did = did

pub back-alike : {T : Type 0} (result : Result T UnitRefusal) (d d' : DeviceState) (m m' : Bool) → BackOn d m d' m' result → TellsAlike d d'
back-alike result d d' true m' did = alike-same d d' (did.marked refl).0
back-alike result d d' false m' did = (did.unmarked refl).tells

-- a unit was closed, or its device failed
pub closing-tells : (unit : ℤ) (b a : List Row) (result : Result declared.Closed UnitRefusal) → ClosedUnit unit b a result → Tells b → Tells a
closing-tells unit b a (Ok closed) did tells =
    subst Tells (sym did.closed.now)
    (tells-closed did.closed.front did.closed.back unit did.closed.device did.closed.end_mark did.closed.zero_blanks
    (subst Tells did.closed.was tells))
closing-tells unit b a (Err Failed) did tells =
    let at = did.failed refl
    in subst Tells (sym at.now)
    (tells-changed at.front at.back unit at.device at.device' at.end_mark at.end_mark' at.zero_blanks
    (alike-told at.device at.device' at.did.finished.told) (subst Tells at.was tells))
closing-tells unit b a (Err NotConnected) did tells = subst Tells (sym (did.missing refl)) tells
closing-tells unit b a (Err NotOffered) did tells = absurd did.other
closing-tells unit b a (Err Taken) did tells = absurd did.other
closing-tells unit b a (Err PastEnd) did tells = absurd did.other

-- a unit was opened, or not
pub opening-tells :
    {T : Type 0} (unit : ℤ) (name : List ℕ) (z : Bool) (b a : List Row) (result : Result T UnitRefusal)
    → OpenedUnit unit name z b a result
    → Tells b
    → Tells a
opening-tells unit name z b a (Ok x) did tells =
    subst Tells (sym did.opened.now)
    (tells-opened did.opened.front did.opened.back unit name did.opened.device z (subst Tells did.opened.was tells))
opening-tells unit name z b a (Err refused) did tells = subst Tells (sym did.kept) tells
