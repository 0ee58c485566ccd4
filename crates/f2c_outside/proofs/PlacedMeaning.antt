-- Connecting, offering, opening, closing and finishing mean what the statements on the units mean.
use Rattle.std.proofs.Common.{◌≡◌, ℕ, ℤ, Bool, true, false, ◌||◌, List, [], ◌∷◌, ◌++◌, length, map, Option, Some, None, is_some, refl, ap, sym, ◌∙◌, subst, arith}
use Rattle.std.specs.Prelude.{◌≤ℤ◌, Result, Ok, Err, IsSome, IfSome, unwrap_or, if◌then◌else◌, bytes_eq}
use Rattle.std.proofs.lemmas.Int.{ints, by_lt_z}
use Rattle.std.specs.Ordering.{int_eq}
use mathlib.Core.Path.{fun_ext}
use Rattle.std.proofs.lemmas.Bool.Decides.{Decides-int_eq}
use Rattle.std.proofs.lemmas.Slice.Eq.{bytes_eq-Decides}
use Rattle.std.proofs.lemmas.List.{append-nil, map-append}
use Rattle.std.specs.declared.alloc.Global.{Global}
use Rattle.std.specs.declared.dyn_box.DynBox.{DynBox}
use Rattle.f2c_outside.specs.declared.unit_table.Row as table
use Rattle.f2c_outside.specs.Shown.{shown}
use Rattle.f2c_outside.specs.Device.{DeviceState}
use Rattle.f2c_outside.specs.Table.{Row, Offers, Connects, Closed, at_unit, is_connected, is_offered, reads_zeros, OpenedUnit, IsClosed, ClosedUnit}
use Rattle.f2c_outside.specs.Finishing.{WasFinished, FinishedUpTo, OnDevice, EachRow}
use Rattle.run_state.specs.Units.{UnitState, Offered, Units, Closing, Picked, with_unit, zero_blanks_of, preconnect, put_in_drawer, pick, put_before, connect_file, open_at, open_unit, close_at, close_unit}
use Rattle.run_state.specs.declared.refusals.UnitRefusal.{UnitRefusal}
use Rattle.run_state.specs.declared.refusals.UnitRefusal.TheVariants.{NotConnected, NotOffered, Taken}
use Rattle.f2c_outside.specs.declared.unit_table.Closed as declared
use Rattle.f2c_outside.proofs.TableLaws.{none-front, none-back, none-parts}
use Rattle.f2c_outside.proofs.StillTells.{closing-tells, opening-tells}
use Rattle.f2c_outside.proofs.MeaningLaws.{chosen-true, chosen-false, or-false-left, or-false-right, unit-there, connected-none, told-there}
use Rattle.f2c_outside.specs.Meaning.{records_of, unit_of, connected_in, drawer_in, units_of, Tells, MeansOpening, MeansClosing}

same-device :
    (d d' : DeviceState) (m z : Bool) → d'.told ≡ d.told → d'.position ≡ d.position → unit_of d' m z ≡ unit_of d m z
same-device d d' m z told position =
    same (records_of d') (records_of d) d'.position d.position
    (ap (λ (o : Option (List (List ℕ))). unwrap_or o []) told) position
  where
    same :
        (r r' : List (List ℕ)) (p p' : ℕ) → r ≡ r' → p ≡ p'
        → (let u : UnitState = record { records = r; position = p; end_mark = m; zero_blanks = z } in u)
        ≡ record { records = r'; position = p'; end_mark = m; zero_blanks = z }
    same r r' p p' x y = cc

connected-kept :
    (R : ℤ → DeviceState → DeviceState → Type 0)
    → ((unit : ℤ) (d d' : DeviceState) → R unit d d' → (d'.told ≡ d.told) × (d'.position ≡ d.position))
    → (asked : ℤ) (b a : List Row)
    → EachRow (OnDevice R) b a
    → connected_in a asked ≡ connected_in b asked
connected-kept R keeps asked [] a each = ap (λ (rows : List Row). connected_in rows asked) each
connected-kept R keeps asked (x ∷ b) [] each = absurd each
connected-kept R keeps asked (Offers name device ∷ b) (y ∷ a) each =
    ap (λ (row : Row). connected_in (row ∷ a) asked) each.0 ∙ connected-kept R keeps asked b a each.1
connected-kept R keeps asked (Closed ∷ b) (y ∷ a) each =
    ap (λ (row : Row). connected_in (row ∷ a) asked) each.0 ∙ connected-kept R keeps asked b a each.1
connected-kept R keeps asked (Connects unit device m z ∷ b) (y ∷ a) each =
    let kept : (each.0.device'.told ≡ device.told) × (each.0.device'.position ≡ device.position) =
    keeps unit device each.0.device' each.0.did
    in ap (λ (row : Row). connected_in (row ∷ a) asked) each.0.is
    ∙ ap (λ (u : UnitState). if int_eq unit asked then Some u else connected_in a asked)
    (same-device device each.0.device' m z kept.0 kept.1)
    ∙ ap (λ (rest : Option UnitState). if int_eq unit asked then Some (unit_of device m z) else rest)
    (connected-kept R keeps asked b a each.1)

drawer-kept :
    (R : ℤ → DeviceState → DeviceState → Type 0) (b a : List Row) → EachRow (OnDevice R) b a → drawer_in a ≡ drawer_in b
drawer-kept R [] a each = ap drawer_in each
drawer-kept R (x ∷ b) [] each = absurd each
drawer-kept R (Offers name device ∷ b) (y ∷ a) each =
    ap (λ (row : Row). drawer_in (row ∷ a)) each.0
    ∙ ap (λ (rest : List Offered). record { name = name; records = records_of device; position = device.position } ∷ rest)
    (drawer-kept R b a each.1)
drawer-kept R (Closed ∷ b) (y ∷ a) each = ap (λ (row : Row). drawer_in (row ∷ a)) each.0 ∙ drawer-kept R b a each.1
drawer-kept R (Connects unit device m z ∷ b) (y ∷ a) each =
    ap (λ (row : Row). drawer_in (row ∷ a)) each.0.is ∙ drawer-kept R b a each.1

same-state :
    (f g : ℤ → Option UnitState) (d e : List Offered)
    → f ≡ g → d ≡ e
    → (let u : Units = record { connected = f; drawer = d } in u) ≡ record { connected = g; drawer = e }
same-state f g d e p q = cc

-- the state of the units stays where each device keeps its records and its position
pub units-kept :
    (R : ℤ → DeviceState → DeviceState → Type 0)
    → ((unit : ℤ) (d d' : DeviceState) → R unit d d' → (d'.told ≡ d.told) × (d'.position ≡ d.position))
    → (b a : List Row)
    → EachRow (OnDevice R) b a
    → units_of a ≡ units_of b
units-kept R keeps b a each =
    same-state (connected_in a) (connected_in b) (drawer_in a) (drawer_in b)
    (fun_ext (λ asked. connected-kept R keeps asked b a each)) (drawer-kept R b a each)

finished-keeps : (unit : ℤ) (d d' : DeviceState) → WasFinished d d' → (d'.told ≡ d.told) × (d'.position ≡ d.position)
finished-keeps unit d d' did = (did.told, did.position)

up-to-keeps : (unit own : ℤ) (d d' : DeviceState) → FinishedUpTo unit own d d' → (d'.told ≡ d.told) × (d'.position ≡ d.position)
up-to-keeps unit own d d' did =
    by_lt_z own unit (λ less. ((did.before less).told, (did.before less).position))
    (λ over.
    by_lt_z unit own
    (λ more. (ap (λ (x : DeviceState). x.told) (did.behind more), ap (λ (x : DeviceState). x.position) (did.behind more)))
    (λ under.
    let same : own ≡ unit = both-sides own unit over under
    in ((did.here same).told, (did.here same).position)))
  where
    both-sides : (x y : ℤ) → y ≤ℤ x → x ≤ℤ y → x ≡ y
    both-sides x y a b = omega (arith, ints)

-- finishing changes no state of a unit
pub all-finished-means :
    (b a : List Row) → EachRow (OnDevice (λ own d d'. WasFinished d d')) b a → units_of a ≡ units_of b
all-finished-means b a each = units-kept (λ own d d'. WasFinished d d') finished-keeps b a each

pub first-fault-means : (unit : ℤ) (b a : List Row) → EachRow (OnDevice (FinishedUpTo unit)) b a → units_of a ≡ units_of b
first-fault-means unit b a each = units-kept (FinishedUpTo unit) (up-to-keeps unit) b a each

true-false : true ≡ false → ⊥
true-false is = cc

-- a test on a choice
some-chosen : {X : Type 0} (b : Bool) (x : X) (rest : Option X) → is_some (if b then Some x else rest) ≡ (b || is_some rest)
some-chosen true x rest = refl
some-chosen false x rest = refl

-- a unit has a state where it is connected
pub connected-some : (rows : List Row) (unit : ℤ) → is_some (connected_in rows unit) ≡ is_connected unit rows
connected-some [] unit = refl
connected-some (Connects own device m z ∷ rest) unit =
    some-chosen (int_eq own unit) (unit_of device m z) (connected_in rest unit)
    ∙ ap (λ (b : Bool). int_eq own unit || b) (connected-some rest unit)
connected-some (Offers name device ∷ rest) unit = connected-some rest unit
connected-some (Closed ∷ rest) unit = connected-some rest unit

zeros-chosen :
    (b : Bool) (unit : UnitState) (rest : Option UnitState) (zeros : Bool)
    → zeros ≡ zero_blanks_of rest
    → (if b then unit.zero_blanks else zeros) ≡ zero_blanks_of (if b then Some unit else rest)
zeros-chosen true unit rest zeros is = refl
zeros-chosen false unit rest zeros is = is

-- the blanks of a unit are those of its state
pub zeros-mean : (rows : List Row) (unit : ℤ) → reads_zeros unit rows ≡ zero_blanks_of (connected_in rows unit)
zeros-mean [] unit = refl
zeros-mean (Connects own device m z ∷ rest) unit =
    zeros-chosen (int_eq own unit) (unit_of device m z) (connected_in rest unit) (reads_zeros unit rest) (zeros-mean rest unit)
zeros-mean (Offers name device ∷ rest) unit = zeros-mean rest unit
zeros-mean (Closed ∷ rest) unit = zeros-mean rest unit

flipped : (x y : ℤ) → int_eq x y ≡ int_eq y x
flipped x y = by-test (int_eq x y) (int_eq y x) refl refl
  where
    by-test : (a b : Bool) → int_eq x y ≡ a → int_eq y x ≡ b → a ≡ b
    by-test true true p q = refl
    by-test false false p q = refl
    by-test true false p q = let back : int_eq y x ≡ true = (Decides-int_eq y x).1 (sym ((Decides-int_eq x y).0 p)) in cc
    by-test false true p q = let back : int_eq x y ≡ true = (Decides-int_eq x y).1 (sym ((Decides-int_eq y x).0 q)) in cc

-- two choices of which at most one holds
swapped :
    {X : Type 0} (a b : Bool) (x y rest : X)
    → (a ≡ true → b ≡ true → ⊥)
    → (if a then x else if b then y else rest) ≡ (if b then y else if a then x else rest)
swapped true true x y rest never = absurd (never refl refl)
swapped true false x y rest never = refl
swapped false b x y rest never = refl

-- a connected row among the others gives its unit a state, and no other
inserted :
    (front back : List Row) (unit asked : ℤ) (device : DeviceState) (m z : Bool)
    → is_connected unit front ≡ false
    → connected_in (front ++ Connects unit device m z ∷ back) asked
    ≡ (if int_eq asked unit then Some (unit_of device m z) else connected_in (front ++ back) asked)
inserted [] back unit asked device m z none =
    ap (λ (b : Bool). if b then Some (unit_of device m z) else connected_in back asked) (flipped unit asked)
inserted (Offers name d ∷ front) back unit asked device m z none = inserted front back unit asked device m z none
inserted (Closed ∷ front) back unit asked device m z none = inserted front back unit asked device m z none
inserted (Connects own d n w ∷ front) back unit asked device m z none =
    ap (λ (rest : Option UnitState). if int_eq own asked then Some (unit_of d n w) else rest)
    (inserted front back unit asked device m z (or-false-right (int_eq own unit) (is_connected unit front) none))
    ∙ swapped (int_eq own asked) (int_eq asked unit) (Some (unit_of d n w)) (Some (unit_of device m z)) (connected_in (front ++ back) asked)
    (λ here there.
    let same : int_eq own unit ≡ true =
    (Decides-int_eq own unit).1 ((Decides-int_eq own asked).0 here ∙ (Decides-int_eq asked unit).0 there)
    in true-false (sym same ∙ or-false-left (int_eq own unit) (is_connected unit front) none))

-- a row that is not connected gives no unit a state
offer-skipped :
    (front back : List Row) (asked : ℤ) (name : List ℕ) (device : DeviceState)
    → connected_in (front ++ Offers name device ∷ back) asked ≡ connected_in (front ++ back) asked
offer-skipped [] back asked name device = refl
offer-skipped (Offers own d ∷ front) back asked name device = offer-skipped front back asked name device
offer-skipped (Closed ∷ front) back asked name device = offer-skipped front back asked name device
offer-skipped (Connects own d n w ∷ front) back asked name device =
    ap (λ (rest : Option UnitState). if int_eq own asked then Some (unit_of d n w) else rest) (offer-skipped front back asked name device)

closed-skipped :
    (front back : List Row) (asked : ℤ) → connected_in (front ++ Closed ∷ back) asked ≡ connected_in (front ++ back) asked
closed-skipped [] back asked = refl
closed-skipped (Offers own d ∷ front) back asked = closed-skipped front back asked
closed-skipped (Closed ∷ front) back asked = closed-skipped front back asked
closed-skipped (Connects own d n w ∷ front) back asked =
    ap (λ (rest : Option UnitState). if int_eq own asked then Some (unit_of d n w) else rest) (closed-skipped front back asked)

drawer-append : (xs ys : List Row) → drawer_in (xs ++ ys) ≡ drawer_in xs ++ drawer_in ys
drawer-append [] ys = refl
drawer-append (Connects unit device m z ∷ xs) ys = drawer-append xs ys
drawer-append (Closed ∷ xs) ys = drawer-append xs ys
drawer-append (Offers name device ∷ xs) ys =
    ap (λ (rest : List Offered). record { name = name; records = records_of device; position = device.position } ∷ rest) (drawer-append xs ys)

-- the first file of a name is taken out of the drawer
picked :
    (front back : List Row) (name : List ℕ) (device : DeviceState)
    → is_offered name front ≡ false
    → pick name (drawer_in (front ++ Offers name device ∷ back))
    ≡ Some
    (record {
      file = record { name = name; records = records_of device; position = device.position };
      rest = drawer_in (front ++ back);
    })
picked [] back name device none =
    chosen-true (bytes_eq name name)
    (let p : Picked = record { file = record { name = name; records = records_of device; position = device.position }; rest = drawer_in back } in Some p)
    (put_before (record { name = name; records = records_of device; position = device.position }) (pick name (drawer_in back)))
    ((bytes_eq-Decides name name).1 refl)
picked (Connects unit d m z ∷ front) back name device none = picked front back name device none
picked (Closed ∷ front) back name device none = picked front back name device none
picked (Offers own d ∷ front) back name device none =
    let first : Offered = record { name = own; records = records_of d; position = d.position }
    in chosen-false (bytes_eq own name)
    (let p : Picked = record { file = first; rest = drawer_in (front ++ Offers name device ∷ back) } in Some p)
    (put_before first (pick name (drawer_in (front ++ Offers name device ∷ back))))
    (or-false-left (bytes_eq own name) (is_offered name front) none)
    ∙ ap (put_before first) (picked front back name device (or-false-right (bytes_eq own name) (is_offered name front) none))

-- no file of the name is in the drawer
not-picked : (rows : List Row) (name : List ℕ) → is_offered name rows ≡ false → pick name (drawer_in rows) ≡ None
not-picked [] name none = refl
not-picked (Connects unit d m z ∷ rows) name none = not-picked rows name none
not-picked (Closed ∷ rows) name none = not-picked rows name none
not-picked (Offers own d ∷ rows) name none =
    let first : Offered = record { name = own; records = records_of d; position = d.position }
    in chosen-false (bytes_eq own name)
    (let p : Picked = record { file = first; rest = drawer_in rows } in Some p)
    (put_before first (pick name (drawer_in rows)))
    (or-false-left (bytes_eq own name) (is_offered name rows) none)
    ∙ ap (put_before first) (not-picked rows name (or-false-right (bytes_eq own name) (is_offered name rows) none))

-- one more row is connected to a unit that was not
pub connect-means :
    (rows : List Row) (unit : ℤ) (device : DeviceState)
    → is_connected unit rows ≡ false
    → units_of (rows ++ Connects unit device false false ∷ []) ≡ preconnect unit (records_of device) device.position (units_of rows)
connect-means rows unit device free =
    same-state (connected_in (rows ++ Connects unit device false false ∷ []))
    (λ asked. if int_eq asked unit then Some (unit_of device false false) else connected_in rows asked)
    (drawer_in (rows ++ Connects unit device false false ∷ [])) (drawer_in rows)
    (fun_ext
    (λ asked.
    inserted rows [] unit asked device false false free
    ∙ ap (λ (list : List Row). if int_eq asked unit then Some (unit_of device false false) else connected_in list asked) (append-nil rows)))
    (drawer-append rows (Connects unit device false false ∷ []) ∙ append-nil (drawer_in rows))

-- one more row is offered
pub offer-means :
    (rows : List Row) (name : List ℕ) (device : DeviceState)
    → units_of (rows ++ Offers name device ∷ []) ≡ put_in_drawer name (records_of device) device.position (units_of rows)
offer-means rows name device =
    same-state (connected_in (rows ++ Offers name device ∷ [])) (connected_in rows)
    (drawer_in (rows ++ Offers name device ∷ []))
    (drawer_in rows ++ record { name = name; records = records_of device; position = device.position } ∷ [])
    (fun_ext
    (λ asked. offer-skipped rows [] asked name device ∙ ap (λ (list : List Row). connected_in list asked) (append-nil rows)))
    (drawer-append rows (Offers name device ∷ []))

-- what `open_at` gives of a unit that is connected, and of one that is not
open-connected :
    (unit : ℤ) (name : List ℕ) (z : Bool) (state : Option UnitState) (units : Units)
    → is_some state ≡ true
    → open_at unit name z state units ≡ Err Taken
open-connected unit name z (Some state) units is = refl
open-connected unit name z None units is = absurd (true-false (sym is))

-- an offered row became a connected one
opened-means :
    (front back : List Row) (unit : ℤ) (name : List ℕ) (z : Bool) (device : DeviceState)
    → is_connected unit (front ++ Offers name device ∷ back) ≡ false
    → is_offered name front ≡ false
    → open_unit unit name z (units_of (front ++ Offers name device ∷ back)) ≡ Ok (units_of (front ++ Connects unit device false z ∷ back))
unfolding open_unit
opened-means front back unit name z device free first =
    let rows : List Row = front ++ Offers name device ∷ back
    in ap (λ (state : Option UnitState). open_at unit name z state (units_of rows)) (connected-none rows unit free)
    ∙ ap (λ (p : Option Picked). connect_file unit z p (units_of rows)) (picked front back name device first)
    ∙ ap ok_units
    (same-state (λ asked. if int_eq asked unit then Some (unit_of device false z) else connected_in rows asked)
    (connected_in (front ++ Connects unit device false z ∷ back)) (drawer_in (front ++ back))
    (drawer_in (front ++ Connects unit device false z ∷ back))
    (fun_ext
    (λ asked.
    ap (λ (rest : Option UnitState). if int_eq asked unit then Some (unit_of device false z) else rest) (offer-skipped front back asked name device)
    ∙ sym (inserted front back unit asked device false z (none-front (at_unit unit) front (Offers name device ∷ back) free))))
    (drawer-append front back ∙ sym (drawer-append front (Connects unit device false z ∷ back))))
  where
    ok_units : Units → Result Units UnitRefusal
    ok_units units = Ok units

-- opening means opening
pub open-means :
    {T : Type 0} (unit : ℤ) (name : List ℕ) (z : Bool) (b a : List Row) (result : Result T UnitRefusal)
    → OpenedUnit unit name z b a result
    → MeansOpening result (open_unit unit name z (units_of b)) b a
unfolding open_unit
open-means {T = T} unit name z b a (Ok x) did =
    record {
      tells = opening-tells unit name z b a (Ok x) did;
      done =
          let free : is_connected unit (did.opened.front ++ Offers name did.opened.device ∷ did.opened.back) ≡ false =
          sym (ap (is_connected unit) did.opened.was) ∙ (did.done.0 refl).0
          in ap (λ (rows : List Row). open_unit unit name z (units_of rows)) did.opened.was
          ∙ opened-means did.opened.front did.opened.back unit name z did.opened.device free did.opened.first
          ∙ ap (λ (rows : List Row). (let r : Result Units UnitRefusal = Ok (units_of rows) in r)) (sym did.opened.now);
      refused = tt;
    }
open-means {T = T} unit name z b a (Err refused) did =
    record {
      tells = opening-tells unit name z b a (Err refused) did;
      done = tt;
      refused = by-tests (is_connected unit b) (is_offered name b) refl refl;
    }
  where
    the : UnitRefusal → Result T UnitRefusal
    the why = Err why

    alike : (x y : UnitRefusal) → the x ≡ the y → x ≡ y
    alike x y is = cc

    by-tests :
        (connected offered : Bool) → is_connected unit b ≡ connected → is_offered name b ≡ offered
        → open_at unit name z (connected_in b unit) (units_of b) ≡ Err refused
    by-tests true offered there has =
        open-connected unit name z (connected_in b unit) (units_of b) (connected-some b unit ∙ there)
        ∙ ap (λ (why : UnitRefusal). let r : Result Units UnitRefusal = Err why in r) (sym (alike refused Taken (did.taken.1 there)))
    by-tests false false free none =
        ap (λ (state : Option UnitState). open_at unit name z state (units_of b)) (connected-none b unit free)
        ∙ ap (λ (p : Option Picked). connect_file unit z p (units_of b)) (not-picked b name none)
        ∙ ap (λ (why : UnitRefusal). let r : Result Units UnitRefusal = Err why in r)
        (sym (alike refused NotOffered (did.not_offered.1 (free, none))))
    by-tests false true free has = absurd (true-false (sym (did.done.1 (free, has))))

-- a device that tells
told-count :
    (told : Option (List (List ℕ))) (count : ℕ) → IsSome told → IfSome told (λ lines. count ≡ length lines) → length (unwrap_or told []) ≡ count
told-count (Some lines) count some is = sym is
told-count None count some is = absurd (cc)

-- closing means closing
pub close-means :
    (unit : ℤ) (b a : List Row) (result : Result declared.Closed UnitRefusal)
    → ClosedUnit unit b a result
    → Tells b
    → MeansClosing result (close_unit unit (units_of b)) a
unfolding close_unit
close-means unit b a (Err refused) did tells =
    record {
      tells = closing-tells unit b a (Err refused) did tells;
      done = tt;
      missing = λ is. ap (λ (state : Option UnitState). close_at unit state (units_of b)) (connected-none b unit (did.refused.0 is));
    }
close-means unit b a (Ok closed) did tells =
    record {
      tells = closing-tells unit b a (Ok closed) did tells;
      done =
          let c : IsClosed unit b a closed.records = did.closed
          in let free : is_connected unit (c.front ++ c.back) ≡ false =
          none-parts (at_unit unit) c.front c.back
          (none-front (at_unit unit) c.front (Closed ∷ c.back) (sym (ap (is_connected unit) c.now) ∙ c.free))
          (none-back (at_unit unit) c.front (Closed ∷ c.back) (sym (ap (is_connected unit) c.now) ∙ c.free))
          in let front : is_connected unit c.front ≡ false = none-front (at_unit unit) c.front c.back free
          in let state : UnitState = unit_of c.device c.end_mark c.zero_blanks
          in ap (λ (rows : List Row). close_at unit (connected_in rows unit) (units_of b)) c.was
          ∙ ap (λ (s : Option UnitState). close_at unit s (units_of b)) (unit-there c.front c.back unit c.device c.end_mark c.zero_blanks front)
          ∙ same-closing (length (records_of c.device)) closed.records
          (with_unit unit None (units_of b)) (units_of a)
          (told-count c.device.told closed.records
          (told-there c.front c.back unit c.device c.end_mark c.zero_blanks (subst Tells c.was tells)) c.count)
          (ap (λ (rows : List Row). with_unit unit None (units_of rows)) c.was
          ∙ without c.front c.back unit c.device c.end_mark c.zero_blanks front free
          ∙ sym (ap units_of c.now));
      missing = λ is. absurd (ok-missing is);
    }
  where
    ok-missing : {x : declared.Closed} → (let r : Result declared.Closed UnitRefusal = Ok x in r) ≡ Err NotConnected → ⊥
    ok-missing is = cc

    same-closing :
        (n n' : ℕ) (u u' : Units) → n ≡ n' → u ≡ u'
        → (let c : Closing = record { count = n; after = u } in let r : Result Closing UnitRefusal = Ok c in r)
        ≡ Ok (record { count = n'; after = u' })
    same-closing n n' u u' p q = cc

    none-here : (rows : List Row) (u asked : ℤ) (x : Bool) (rest : Option UnitState) → is_connected u rows ≡ false → int_eq asked u ≡ x → rest ≡ connected_in rows asked → (if x then None else rest) ≡ connected_in rows asked
    none-here rows u asked true rest none is same =
        sym (connected-none rows asked (subst (λ (v : ℤ). is_connected v rows ≡ false) (sym ((Decides-int_eq asked u).0 is)) none))
    none-here rows u asked false rest none is same = same

    other-chosen : (x : Bool) (s rest : Option UnitState) → (if x then None else if x then s else rest) ≡ (if x then None else rest)
    other-chosen true s rest = refl
    other-chosen false s rest = refl

    without :
        (front back : List Row) (u : ℤ) (device : DeviceState) (m z : Bool)
        → is_connected u front ≡ false
        → is_connected u (front ++ back) ≡ false
        → with_unit u None (units_of (front ++ Connects u device m z ∷ back)) ≡ units_of (front ++ Closed ∷ back)
    without front back u device m z none free =
        same-state (λ asked. if int_eq asked u then None else connected_in (front ++ Connects u device m z ∷ back) asked)
        (connected_in (front ++ Closed ∷ back)) (drawer_in (front ++ Connects u device m z ∷ back)) (drawer_in (front ++ Closed ∷ back))
        (fun_ext
        (λ asked.
        ap (λ (rest : Option UnitState). if int_eq asked u then None else rest) (inserted front back u asked device m z none)
        ∙ other-chosen (int_eq asked u) (Some (unit_of device m z)) (connected_in (front ++ back) asked)
        ∙ none-here (front ++ back) u asked (int_eq asked u) (connected_in (front ++ back) asked) free refl refl
        ∙ sym (closed-skipped front back asked)))
        (drawer-append front (Connects u device m z ∷ back) ∙ sym (drawer-append front (Closed ∷ back)))

-- a device was connected, as a row behind the others
pub connected-means :
    {V : Type 0} {H : V → Type 0} (state : DynBox V Global H → DeviceState) (rows after : List (table.Row V H)) (r : table.Row V H)
    (unit : ℤ) (device : DeviceState)
    → after ≡ rows ++ r ∷ []
    → shown state r ≡ Connects unit device false false
    → is_connected unit (map (shown state) rows) ≡ false
    → units_of (map (shown state) after) ≡ preconnect unit (records_of device) device.position (units_of (map (shown state) rows))
connected-means {V = V} {H = H} state rows after r unit device is shows free =
    ap (λ (list : List (table.Row V H)). units_of (map (shown state) list)) is
    ∙ ap units_of (map-append (shown state) rows (r ∷ []) ∙ ap (λ (x : Row). map (shown state) rows ++ x ∷ []) shows)
    ∙ connect-means (map (shown state) rows) unit device free

-- a device was offered, as a row behind the others
pub offered-means :
    {V : Type 0} {H : V → Type 0} (state : DynBox V Global H → DeviceState) (rows after : List (table.Row V H)) (r : table.Row V H)
    (name : List ℕ) (device : DeviceState)
    → after ≡ rows ++ r ∷ []
    → shown state r ≡ Offers name device
    → units_of (map (shown state) after) ≡ put_in_drawer name (records_of device) device.position (units_of (map (shown state) rows))
offered-means {V = V} {H = H} state rows after r name device is shows =
    ap (λ (list : List (table.Row V H)). units_of (map (shown state) list)) is
    ∙ ap units_of (map-append (shown state) rows (r ∷ []) ∙ ap (λ (x : Row). map (shown state) rows ++ x ∷ []) shows)
    ∙ offer-means (map (shown state) rows) name device
