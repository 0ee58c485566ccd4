-- Lemmas on the rows of a unit table.
use Rattle.std.proofs.Common.{◌≡◌, ℕ, zero, suc, ◌<◌, ◌≤◌, min, ℤ, Bool, true, false, not, ◌&&◌, ◌||◌, List, [], ◌∷◌, ◌++◌, length, map, take, drop, get_or, set, Option, Some, None, is_some, refl, ap, sym, ◌∙◌, subst, arith, length-append, ◌⊎◌, inl, inr}
use Rattle.std.specs.List.{list_any}
use Rattle.std.specs.Ordering.{int_eq}
use Rattle.std.proofs.lemmas.List.{map-append, length-take, append-nil}
use Rattle.std.proofs.lemmas.List.Folds.{list_any-append}
use Rattle.std.proofs.Math.Seq.{get_or-append_seam}
use Rattle.std.proofs.lemmas.Bool.Decides.{Decides-int_eq}
use Rattle.std.specs.declared.alloc.Global.{Global}
use Rattle.std.specs.declared.dyn_box.DynBox.{DynBox}
use Rattle.f2c_outside.specs.Device.{DeviceState}
use Rattle.f2c_outside.specs.Table.{Offers, Connects, Closed, IsFirstAt, IsFirst, OnRow, AtUnit, OnUnit, IsFailed, IsPastOrFailed, IsMissingOrFailed, OpenedUnit, ClosedUnit, ClosesRow, OnClosedRow, reads_zeros, at_unit, offers_name, is_connected, is_offered, units_at}
use Rattle.f2c_outside.specs.Table as table
use Rattle.run_state.specs.declared.refusals.UnitRefusal.{UnitRefusal}
use Rattle.run_state.specs.declared.refusals.UnitRefusal.TheVariants.{NotConnected, NotOffered, Taken, PastEnd, Failed}
use Rattle.std.specs.Prelude.{Result, Ok, Err, IfErr, IsErrOf, if◌then◌else◌}
use Rattle.std.proofs.lemmas.Slice.Eq.{bytes_eq-Decides}
use Rattle.f2c_outside.specs.declared.unit_table.Closed as declared
use Rattle.f2c_outside.specs.Placing.{zeros_in, BecomesConnected}
use Rattle.f2c_outside.specs.Shown.{shown, holds_unit, holds_name, units_in, distinct_units}
use Rattle.f2c_outside.specs.declared.unit_table.Row.{Row}
use Rattle.f2c_outside.specs.declared.unit_table.Row.TheVariants as row

-- a list, split at one of its elements
pub split-at :
    {X : Type 0} (xs : List X) (n : ℕ) (d : X) → n < length xs → xs ≡ take n xs ++ get_or xs n d ∷ drop (suc n) xs
split-at [] n d within = absurd (omega arith)
split-at (x ∷ xs) zero d within = refl
split-at {X = X} (x ∷ xs) (suc n) d within = ap (λ (rest : List X). x ∷ rest) (split-at xs n d (omega arith))

least : (n m : ℕ) → n ≤ m → min n m ≡ n
least n m within = omega arith

-- the next one is the first that passes
pub first-here :
    {X : Type 0} (passes : X → Bool) (xs : List X) (n : ℕ) (x : X)
    → n < length xs
    → x ≡ get_or xs n x
    → passes x ≡ true
    → list_any passes (take n xs) ≡ false
    → IsFirstAt passes xs n
first-here {X = X} passes xs n x within is holds none =
    record {
      front = take n xs;
      item = x;
      back = drop (suc n) xs;
      is = split-at xs n x within ∙ ap (λ (y : X). take n xs ++ y ∷ drop (suc n) xs) (sym is);
      at = sym (length-take n xs ∙ least n (length xs) (omega arith));
      holds = holds;
      first = none;
    }

or-both : (a b : Bool) → a ≡ false → b ≡ false → (a || b) ≡ false
or-both false b x y = y
or-both true b x y = absurd (cc)

or-left : (a b : Bool) → (a || b) ≡ false → a ≡ false
or-left false b x = refl
or-left true b x = x

or-right : (a b : Bool) → (a || b) ≡ false → b ≡ false
or-right false b x = x
or-right true b x = absurd (cc)

or-second : (a b : Bool) → b ≡ true → (a || b) ≡ true
or-second false b x = x
or-second true b x = refl

or-first : (a b : Bool) → a ≡ true → (a || b) ≡ true
or-first true b x = refl
or-first false b x = absurd (cc)

-- none passes in two parts, so none does in the whole, and the other way round
pub none-parts :
    {X : Type 0} (passes : X → Bool) (xs ys : List X)
    → list_any passes xs ≡ false
    → list_any passes ys ≡ false
    → list_any passes (xs ++ ys) ≡ false
none-parts passes xs ys a b = list_any-append passes xs ys ∙ or-both (list_any passes xs) (list_any passes ys) a b

pub none-front :
    {X : Type 0} (passes : X → Bool) (xs ys : List X) → list_any passes (xs ++ ys) ≡ false → list_any passes xs ≡ false
none-front passes xs ys none = or-left (list_any passes xs) (list_any passes ys) (sym (list_any-append passes xs ys) ∙ none)

pub none-back :
    {X : Type 0} (passes : X → Bool) (xs ys : List X) → list_any passes (xs ++ ys) ≡ false → list_any passes ys ≡ false
none-back passes xs ys none = or-right (list_any passes xs) (list_any passes ys) (sym (list_any-append passes xs ys) ∙ none)

-- a list with one that passes
pub some-inside :
    {X : Type 0} (passes : X → Bool) (xs ys : List X) (x : X) → passes x ≡ true → list_any passes (xs ++ x ∷ ys) ≡ true
some-inside passes xs ys x holds =
    list_any-append passes xs (x ∷ ys)
    ∙ or-second (list_any passes xs) (passes x || list_any passes ys) (or-first (passes x) (list_any passes ys) holds)

ap2 : {A B C : Type 0} (f : A → B → C) {a a' : A} {b b' : B} → a ≡ a' → b ≡ b' → f a b ≡ f a' b'
ap2 f {a = a} {b' = b'} p q = ap (f a) q ∙ ap (λ x. f x b') p

-- whether one was found says whether one passes
pub found-any :
    {X : Type 0} (passes : X → Bool) (xs : List X) (found : Option ℕ) → IsFirst passes xs found → is_some found ≡ list_any passes xs
found-any passes xs None none = sym none
found-any {X = X} passes xs (Some n) is =
    sym (ap (λ (list : List X). list_any passes list) is.is ∙ some-inside passes is.front is.back is.item is.holds)

-- a row holds a unit or a name where what is shown of it does
pub holds-unit : {V : Type 0} {H : V → Type 0} (state : DynBox V Global H → DeviceState) (unit : ℤ) (r : Row V H) → at_unit unit (shown state r) ≡ holds_unit unit r
holds-unit state unit (row.Connected c) = refl
holds-unit state unit (row.Offered name device) = refl
holds-unit state unit row.Closed = refl

pub holds-name : {V : Type 0} {H : V → Type 0} (state : DynBox V Global H → DeviceState) (name : List ℕ) (r : Row V H) → offers_name name (shown state r) ≡ holds_name name r
holds-name state name (row.Connected c) = refl
holds-name state name (row.Offered own device) = refl
holds-name state name row.Closed = refl

pub any-unit :
    {V : Type 0} {H : V → Type 0} (state : DynBox V Global H → DeviceState) (unit : ℤ) (rows : List (Row V H))
    → is_connected unit (map (shown state) rows) ≡ list_any (holds_unit unit) rows
any-unit state unit [] = refl
any-unit state unit (r ∷ rest) = ap2 (λ (a b : Bool). a || b) (holds-unit state unit r) (any-unit state unit rest)

pub any-name :
    {V : Type 0} {H : V → Type 0} (state : DynBox V Global H → DeviceState) (name : List ℕ) (rows : List (Row V H))
    → is_offered name (map (shown state) rows) ≡ list_any (holds_name name) rows
any-name state name [] = refl
any-name state name (r ∷ rest) = ap2 (λ (a b : Bool). a || b) (holds-name state name r) (any-name state name rest)

and-left : (a b : Bool) → (a && b) ≡ true → a ≡ true
and-left true b x = refl
and-left false b x = x

and-right : (a b : Bool) → (a && b) ≡ true → b ≡ true
and-right true b x = x
and-right false b x = absurd (cc)

and-both : (a b : Bool) → a ≡ true → b ≡ true → (a && b) ≡ true
and-both true b x y = y
and-both false b x y = x

not-true : (a : Bool) → not a ≡ true → a ≡ false
not-true false x = refl
not-true true x = absurd (cc)

not-false : (a : Bool) → a ≡ false → not a ≡ true
not-false false x = refl
not-false true x = absurd (cc)

either_bool : (b : Bool) → (b ≡ true) ⊎ (b ≡ false)
either_bool true = inl refl
either_bool false = inr refl

differ-back : (x y : ℤ) (b : Bool) → int_eq y x ≡ b → int_eq x y ≡ false → b ≡ false
differ-back x y false is differ = refl
differ-back x y true is differ =
    let same : int_eq x y ≡ true = (Decides-int_eq x y).1 (sym ((Decides-int_eq y x).0 is))
    in absurd (cc)

-- equality of numbers goes both ways
int_eq-back : (x y : ℤ) → int_eq x y ≡ false → int_eq y x ≡ false
int_eq-back x y differ = differ-back x y (int_eq y x) refl differ

-- no other unit is the one between two parts of a list without repetition
distinct-behind :
    (us vs : List ℤ) (u : ℤ) → distinct_units (us ++ u ∷ vs) ≡ true → list_any (λ other. int_eq other u) vs ≡ false
distinct-behind [] vs u is = not-true (list_any (λ other. int_eq other u) vs) (and-left (not (list_any (λ other. int_eq other u) vs)) (distinct_units vs) is)
distinct-behind (x ∷ us) vs u is =
    distinct-behind us vs u (and-right (not (list_any (λ other. int_eq other x) (us ++ u ∷ vs))) (distinct_units (us ++ u ∷ vs)) is)

-- without one of them the list still has no repetition
distinct-without :
    (us vs : List ℤ) (u : ℤ) → distinct_units (us ++ u ∷ vs) ≡ true → distinct_units (us ++ vs) ≡ true
distinct-without [] vs u is = and-right (not (list_any (λ other. int_eq other u) vs)) (distinct_units vs) is
distinct-without (x ∷ us) vs u is =
    let equals : ℤ → Bool = λ other. int_eq other x
    in let rest : distinct_units (us ++ u ∷ vs) ≡ true = and-right (not (list_any equals (us ++ u ∷ vs))) (distinct_units (us ++ u ∷ vs)) is
    in let none : list_any equals (us ++ u ∷ vs) ≡ false =
    not-true (list_any equals (us ++ u ∷ vs)) (and-left (not (list_any equals (us ++ u ∷ vs))) (distinct_units (us ++ u ∷ vs)) is)
    in and-both (not (list_any equals (us ++ vs))) (distinct_units (us ++ vs))
    (not-false (list_any equals (us ++ vs))
    (none-parts equals us vs (none-front equals us (u ∷ vs) none)
    (or-right (equals u) (list_any equals vs) (none-back equals us (u ∷ vs) none))))
    (distinct-without us vs u rest)

-- with one more that is not among them it has none either
distinct-with :
    (us vs : List ℤ) (u : ℤ)
    → distinct_units (us ++ vs) ≡ true
    → list_any (λ other. int_eq other u) (us ++ vs) ≡ false
    → distinct_units (us ++ u ∷ vs) ≡ true
distinct-with [] vs u is none =
    and-both (not (list_any (λ other. int_eq other u) vs)) (distinct_units vs)
    (not-false (list_any (λ other. int_eq other u) vs) none) is
distinct-with (x ∷ us) vs u is none =
    let equals : ℤ → Bool = λ other. int_eq other x
    in let now : list_any equals (us ++ vs) ≡ false =
    not-true (list_any equals (us ++ vs)) (and-left (not (list_any equals (us ++ vs))) (distinct_units (us ++ vs)) is)
    in let other : int_eq u x ≡ false =
    int_eq-back x u (or-left (int_eq x u) (list_any (λ o. int_eq o u) (us ++ vs)) none)
    in and-both (not (list_any equals (us ++ u ∷ vs))) (distinct_units (us ++ u ∷ vs))
    (not-false (list_any equals (us ++ u ∷ vs))
    (none-parts equals us (u ∷ vs) (none-front equals us vs now)
    (or-both (equals u) (list_any equals vs) other (none-back equals us vs now))))
    (distinct-with us vs u (and-right (not (list_any equals (us ++ vs))) (distinct_units (us ++ vs)) is)
    (or-right (int_eq x u) (list_any (λ o. int_eq o u) (us ++ vs)) none))

pub units_in-append :
    {V : Type 0} {H : V → Type 0} (xs ys : List (Row V H)) → units_in (xs ++ ys) ≡ units_in xs ++ units_in ys
units_in-append [] ys = refl
units_in-append (row.Connected c ∷ xs) ys = ap (λ (us : List ℤ). c.unit ∷ us) (units_in-append xs ys)
units_in-append (row.Offered name device ∷ xs) ys = units_in-append xs ys
units_in-append (row.Closed ∷ xs) ys = units_in-append xs ys

any-held :
    {V : Type 0} {H : V → Type 0} (unit : ℤ) (rows : List (Row V H))
    → list_any (holds_unit unit) rows ≡ list_any (λ other. int_eq other unit) (units_in rows)
any-held unit [] = refl
any-held unit (row.Connected c ∷ rest) = ap (λ (b : Bool). int_eq c.unit unit || b) (any-held unit rest)
any-held unit (row.Offered name device ∷ rest) = any-held unit rest
any-held unit (row.Closed ∷ rest) = any-held unit rest

-- the unit of a row, where it is connected
units_of_row : {V : Type 0} {H : V → Type 0} → Row V H → List ℤ
units_of_row r = units_in (r ∷ [])

units-split :
    {V : Type 0} {H : V → Type 0} (front back : List (Row V H)) (r : Row V H)
    → units_in (front ++ r ∷ back) ≡ units_in front ++ (units_in (r ∷ []) ++ units_in back)
units-split front back r = units_in-append front (r ∷ back) ∙ ap (λ (us : List ℤ). units_in front ++ us) (units_in-append (r ∷ []) back)

-- a row that holds a unit has just that one
units-held : {V : Type 0} {H : V → Type 0} (unit : ℤ) (r : Row V H) → holds_unit unit r ≡ true → units_in (r ∷ []) ≡ unit ∷ []
units-held unit (row.Connected c) holds = ap (λ (u : ℤ). u ∷ []) ((Decides-int_eq c.unit unit).0 holds)
units-held unit (row.Offered name device) holds = absurd (cc)
units-held unit row.Closed holds = absurd (cc)

-- the rows behind the one of a unit do not hold it
pub none-behind :
    {V : Type 0} {H : V → Type 0} (unit : ℤ) (front back : List (Row V H)) (r : Row V H)
    → distinct_units (units_in (front ++ r ∷ back)) ≡ true
    → holds_unit unit r ≡ true
    → list_any (holds_unit unit) back ≡ false
none-behind unit front back r distinct holds =
    any-held unit back
    ∙ distinct-behind (units_in front) (units_in back) unit
    (sym
    (ap distinct_units
    (units-split front back r ∙ ap (λ (us : List ℤ). units_in front ++ (us ++ units_in back)) (units-held unit r holds)))
    ∙ distinct)

set-seam : {X : Type 0} (xs ys : List X) (x y : X) → set (xs ++ x ∷ ys) (length xs) y ≡ xs ++ y ∷ ys
set-seam [] ys x y = refl
set-seam {X = X} (z ∷ xs) ys x y = ap (λ (rest : List X). z ∷ rest) (set-seam xs ys x y)

-- the item at its place, and the list with another one there
pub item-at : {X : Type 0} (passes : X → Bool) (xs : List X) (n : ℕ) (x : X) (is : IsFirstAt passes xs n) → x ≡ get_or xs n x → x ≡ is.item
item-at {X = X} passes xs n x is at =
    at
    ∙ ap (λ (list : List X). get_or list n x) is.is
    ∙ ap (λ (k : ℕ). get_or (is.front ++ is.item ∷ is.back) k x) is.at
    ∙ get_or-append_seam is.front is.item is.back x

pub set-there :
    {X : Type 0} (passes : X → Bool) (xs : List X) (n : ℕ) (y : X) (is : IsFirstAt passes xs n)
    → set xs n y ≡ is.front ++ y ∷ is.back
set-there {X = X} passes xs n y is =
    ap (λ (list : List X). set list n y) is.is
    ∙ ap (λ (k : ℕ). set (is.front ++ is.item ∷ is.back) k y) is.at
    ∙ set-seam is.front is.back is.item y

pub within-first : {X : Type 0} (passes : X → Bool) (xs : List X) (n : ℕ) → IsFirstAt passes xs n → n < length xs
within-first passes xs n is = omega (arith, is.at, ap length is.is, length-append is.front (is.item ∷ is.back))

-- a connected row of this unit, changed as R says
pub record Turned (unit : ℤ) (b a : table.Row) (R : DeviceState → Bool → DeviceState → Bool → Type 0) : Type 0 where
  pub device : DeviceState
  pub device' : DeviceState
  pub end_mark : Bool
  pub end_mark' : Bool
  pub zero_blanks : Bool
  pub was : b ≡ Connects unit device end_mark zero_blanks
  pub now : a ≡ Connects unit device' end_mark' zero_blanks
  pub did : R device end_mark device' end_mark'

pub turned :
    {V : Type 0} {H : V → Type 0} (state : DynBox V Global H → DeviceState) (unit : ℤ) (r : Row V H) (after : table.Row)
    (R : DeviceState → Bool → DeviceState → Bool → Type 0)
    → holds_unit unit r ≡ true
    → OnRow (shown state r) after R
    → Turned unit (shown state r) after R
turned state unit (row.Connected c) after R holds on =
    let same : c.unit ≡ unit = (Decides-int_eq c.unit unit).0 holds
    in record {
      device = state c.device;
      device' = on.device';
      end_mark = c.end_mark;
      end_mark' = on.end_mark';
      zero_blanks = c.zero_blanks;
      was = ap (λ (u : ℤ). Connects u (state c.device) c.end_mark c.zero_blanks) same;
      now = on.is ∙ ap (λ (u : ℤ). Connects u on.device' on.end_mark' c.zero_blanks) same;
      did = on.did;
    }
turned state unit (row.Offered name device) after R holds on = absurd (cc)
turned state unit row.Closed after R holds on = absurd (cc)

-- what is shown of the rows, with another row in place of the first that passes
pub shown-was :
    {V : Type 0} {H : V → Type 0} (state : DynBox V Global H → DeviceState) (passes : Row V H → Bool) (rows : List (Row V H)) (n : ℕ)
    (is : IsFirstAt passes rows n)
    → map (shown state) rows ≡ map (shown state) is.front ++ shown state is.item ∷ map (shown state) is.back
shown-was {V = V} {H = H} state passes rows n is =
    ap (λ (list : List (Row V H)). map (shown state) list) is.is ∙ map-append (shown state) is.front (is.item ∷ is.back)

pub shown-now :
    {V : Type 0} {H : V → Type 0} (state : DynBox V Global H → DeviceState) (passes : Row V H → Bool) (rows : List (Row V H)) (n : ℕ)
    (r : Row V H) (is : IsFirstAt passes rows n)
    → map (shown state) (set rows n r) ≡ map (shown state) is.front ++ shown state r ∷ map (shown state) is.back
shown-now {V = V} {H = H} state passes rows n r is =
    ap (λ (list : List (Row V H)). map (shown state) list) (set-there passes rows n r is)
    ∙ map-append (shown state) is.front (r ∷ is.back)

-- no other row is connected to the unit
pub alone-there :
    {V : Type 0} {H : V → Type 0} (state : DynBox V Global H → DeviceState) (unit : ℤ) (rows : List (Row V H)) (n : ℕ)
    (is : IsFirstAt (holds_unit unit) rows n)
    → distinct_units (units_in rows) ≡ true
    → is_connected unit (map (shown state) is.front ++ map (shown state) is.back) ≡ false
alone-there {V = V} {H = H} state unit rows n is distinct =
    ap (is_connected unit) (sym (map-append (shown state) is.front is.back))
    ∙ any-unit state unit (is.front ++ is.back)
    ∙ none-parts (holds_unit unit) is.front is.back is.first
    (none-behind unit is.front is.back is.item
    (sym (ap (λ (list : List (Row V H)). distinct_units (units_in list)) is.is) ∙ distinct)
    is.holds)

-- a call on the row of a unit
pub at-unit :
    {V : Type 0} {H : V → Type 0} (state : DynBox V Global H → DeviceState) (unit : ℤ) (rows : List (Row V H)) (n : ℕ) (r r' : Row V H)
    (R : DeviceState → Bool → DeviceState → Bool → Type 0)
    → distinct_units (units_in rows) ≡ true
    → IsFirstAt (holds_unit unit) rows n
    → r ≡ get_or rows n r
    → OnRow (shown state r) (shown state r') R
    → AtUnit unit (map (shown state) rows) (map (shown state) (set rows n r')) R
at-unit {V = V} {H = H} state unit rows n r r' R distinct is at on =
    let here : r ≡ is.item = item-at (holds_unit unit) rows n r is at
    in let t : Turned unit (shown state is.item) (shown state r') R =
    turned state unit is.item (shown state r') R is.holds
    (subst (λ (x : Row V H). OnRow (shown state x) (shown state r') R) here on)
    in record {
      front = map (shown state) is.front;
      back = map (shown state) is.back;
      device = t.device;
      device' = t.device';
      end_mark = t.end_mark;
      end_mark' = t.end_mark';
      zero_blanks = t.zero_blanks;
      was =
          shown-was state (holds_unit unit) rows n is
          ∙ ap (λ (x : table.Row). map (shown state) is.front ++ x ∷ map (shown state) is.back) t.was;
      now =
          shown-now state (holds_unit unit) rows n r' is
          ∙ ap (λ (x : table.Row). map (shown state) is.front ++ x ∷ map (shown state) is.back) t.now;
      alone = alone-there state unit rows n is distinct;
      did = t.did;
    }

true-false : true ≡ false → ⊥
true-false is = cc

ok-err : {T E : Type 0} {x : T} {e : E} → Ok x ≡ Err e → ⊥
ok-err is = cc

taken-not-offered : {T : Type 0} (r : Result T UnitRefusal) → r ≡ Err Taken → r ≡ Err NotOffered → ⊥
taken-not-offered r is wrong = cc

missing-failed : {T : Type 0} (r : Result T UnitRefusal) → r ≡ Err NotConnected → r ≡ Err Failed → ⊥
missing-failed r is wrong = cc

failed-missing : (refused : UnitRefusal) → IsFailed refused → IsMissingOrFailed refused
failed-missing Failed is = tt
failed-missing NotConnected is = absurd is
failed-missing NotOffered is = absurd is
failed-missing Taken is = absurd is
failed-missing PastEnd is = absurd is

-- a call on a unit that is connected
pub on-unit :
    {T V : Type 0} {H : V → Type 0} (state : DynBox V Global H → DeviceState) (unit : ℤ) (rows : List (Row V H)) (n : ℕ) (r r' : Row V H)
    (result : Result T UnitRefusal) (R : DeviceState → Bool → DeviceState → Bool → Type 0)
    → distinct_units (units_in rows) ≡ true
    → IsFirstAt (holds_unit unit) rows n
    → r ≡ get_or rows n r
    → OnRow (shown state r) (shown state r') R
    → ((d : DeviceState) (m : Bool) (d' : DeviceState) (m' : Bool) → R d m d' m' → ¬ IsErrOf result NotConnected)
    → OnUnit unit (map (shown state) rows) (map (shown state) (set rows n r')) result R
on-unit {V = V} {H = H} state unit rows n r r' result R distinct is at on never =
    let there : AtUnit unit (map (shown state) rows) (map (shown state) (set rows n r')) R = at-unit state unit rows n r r' R distinct is at on
    in let connected : is_connected unit (map (shown state) rows) ≡ true =
    any-unit state unit rows
    ∙ ap (λ (list : List (Row V H)). list_any (holds_unit unit) list) is.is
    ∙ some-inside (holds_unit unit) is.front is.back is.item is.holds
    in record {
      found = λ _. there;
      missing = λ not_there. absurd (true-false (sym connected ∙ not_there));
      refused =
          (λ wrong. absurd (never there.device there.end_mark there.device' there.end_mark' there.did wrong), λ not_there. absurd (true-false (sym connected ∙ not_there)));
    }

-- a call on a unit that is not connected
pub not-on-unit :
    {T V : Type 0} {H : V → Type 0} (state : DynBox V Global H → DeviceState) (unit : ℤ) (rows : List (Row V H))
    (R : DeviceState → Bool → DeviceState → Bool → Type 0)
    → list_any (holds_unit unit) rows ≡ false
    → OnUnit {T = T} unit (map (shown state) rows) (map (shown state) rows) (Err NotConnected) R
not-on-unit {T = T} state unit rows R none =
    let free : is_connected unit (map (shown state) rows) ≡ false = any-unit state unit rows ∙ none
    in record {
      found = λ there. absurd (true-false (sym there ∙ free));
      missing = λ _. refl;
      refused = (λ _. free, λ _. refl);
    }

-- the row still has its unit, so no unit stands twice
pub still-distinct :
    {V : Type 0} {H : V → Type 0} (state : DynBox V Global H → DeviceState) (unit : ℤ) (rows : List (Row V H)) (n : ℕ) (r r' : Row V H)
    (R : DeviceState → Bool → DeviceState → Bool → Type 0)
    → distinct_units (units_in rows) ≡ true
    → IsFirstAt (holds_unit unit) rows n
    → r ≡ get_or rows n r
    → OnRow (shown state r) (shown state r') R
    → distinct_units (units_in (set rows n r')) ≡ true
still-distinct {V = V} {H = H} state unit rows n r r' R distinct is at on =
    let here : r ≡ is.item = item-at (holds_unit unit) rows n r is at
    in let t : Turned unit (shown state is.item) (shown state r') R =
    turned state unit is.item (shown state r') R is.holds
    (subst (λ (x : Row V H). OnRow (shown state x) (shown state r') R) here on)
    in let holds : holds_unit unit r' ≡ true =
    sym (holds-unit state unit r') ∙ ap (at_unit unit) t.now ∙ (Decides-int_eq unit unit).1 refl
    in ap (λ (list : List (Row V H)). distinct_units (units_in list)) (set-there (holds_unit unit) rows n r' is)
    ∙ ap distinct_units
    (units-split is.front is.back r'
    ∙ ap (λ (us : List ℤ). units_in is.front ++ (us ++ units_in is.back)) (units-held unit r' holds ∙ sym (units-held unit is.item is.holds))
    ∙ sym (units-split is.front is.back is.item))
    ∙ sym (ap (λ (list : List (Row V H)). distinct_units (units_in list)) is.is)
    ∙ distinct

-- a call that was refused as `IsFailed` or `IsPastOrFailed` says was not refused as not connected
pub failed-only : {T : Type 0} (result : Result T UnitRefusal) → IfErr result IsFailed → ¬ IsErrOf result NotConnected
failed-only (Ok x) only wrong = cc
failed-only (Err NotConnected) only wrong = only
failed-only (Err NotOffered) only wrong = cc
failed-only (Err Taken) only wrong = cc
failed-only (Err PastEnd) only wrong = cc
failed-only (Err Failed) only wrong = cc

pub past-or-failed-only : {T : Type 0} (result : Result T UnitRefusal) → IfErr result IsPastOrFailed → ¬ IsErrOf result NotConnected
past-or-failed-only (Ok x) only wrong = cc
past-or-failed-only (Err NotConnected) only wrong = only
past-or-failed-only (Err NotOffered) only wrong = cc
past-or-failed-only (Err Taken) only wrong = cc
past-or-failed-only (Err PastEnd) only wrong = cc
past-or-failed-only (Err Failed) only wrong = cc

shown-zeros : {V : Type 0} {H : V → Type 0} (state : DynBox V Global H → DeviceState) (unit : ℤ) (r : Row V H) (rest : List table.Row) → holds_unit unit r ≡ true → reads_zeros unit (shown state r ∷ rest) ≡ zeros_in r
shown-zeros state unit (row.Connected c) rest holds = chosen c.zero_blanks (reads_zeros unit rest) (int_eq c.unit unit) holds
  where
    chosen : (x y b : Bool) → b ≡ true → (if b then x else y) ≡ x
    chosen x y true is = refl
    chosen x y false is = absurd (cc)
shown-zeros state unit (row.Offered name device) rest holds = absurd (cc)
shown-zeros state unit row.Closed rest holds = absurd (cc)

skip-zeros : {V : Type 0} {H : V → Type 0} (state : DynBox V Global H → DeviceState) (unit : ℤ) (r : Row V H) (rest : List table.Row) → holds_unit unit r ≡ false → reads_zeros unit (shown state r ∷ rest) ≡ reads_zeros unit rest
skip-zeros state unit (row.Connected c) rest holds = chosen c.zero_blanks (reads_zeros unit rest) (int_eq c.unit unit) holds
  where
    chosen : (x y b : Bool) → b ≡ false → (if b then x else y) ≡ y
    chosen x y false is = refl
    chosen x y true is = absurd (cc)
skip-zeros state unit (row.Offered name device) rest holds = refl
skip-zeros state unit row.Closed rest holds = refl

pub zeros-none :
    {V : Type 0} {H : V → Type 0} (state : DynBox V Global H → DeviceState) (unit : ℤ) (rows : List (Row V H)) (rest : List table.Row)
    → list_any (holds_unit unit) rows ≡ false
    → reads_zeros unit (map (shown state) rows ++ rest) ≡ reads_zeros unit rest
zeros-none state unit [] rest none = refl
zeros-none state unit (r ∷ rows) rest none =
    skip-zeros state unit r (map (shown state) rows ++ rest) (or-left (holds_unit unit r) (list_any (holds_unit unit) rows) none)
    ∙ zeros-none state unit rows rest (or-right (holds_unit unit r) (list_any (holds_unit unit) rows) none)

-- blanks are zeros on a unit where its row says so
pub zeros-found :
    {V : Type 0} {H : V → Type 0} (state : DynBox V Global H → DeviceState) (unit : ℤ) (rows : List (Row V H)) (n : ℕ) (r : Row V H)
    → IsFirstAt (holds_unit unit) rows n
    → r ≡ get_or rows n r
    → zeros_in r ≡ reads_zeros unit (map (shown state) rows)
zeros-found {V = V} {H = H} state unit rows n r is at =
    ap zeros_in (item-at (holds_unit unit) rows n r is at)
    ∙ sym
    (ap (reads_zeros unit) (shown-was state (holds_unit unit) rows n is)
    ∙ zeros-none state unit is.front (shown state is.item ∷ map (shown state) is.back) is.first
    ∙ shown-zeros state unit is.item (map (shown state) is.back) is.holds)

pub zeros-missing :
    {V : Type 0} {H : V → Type 0} (state : DynBox V Global H → DeviceState) (unit : ℤ) (rows : List (Row V H))
    → list_any (holds_unit unit) rows ≡ false
    → false ≡ reads_zeros unit (map (shown state) rows)
zeros-missing state unit rows none =
    sym (ap (reads_zeros unit) (sym (append-nil (map (shown state) rows))) ∙ zeros-none state unit rows [] none)

-- a device was connected, or memory was refused
pub connected-distinct :
    {V : Type 0} {H : V → Type 0} (rows after : List (Row V H)) (r : Row V H) (unit : ℤ) (ok : Bool)
    → after ≡ (if ok then rows ++ r ∷ [] else rows)
    → distinct_units (units_in rows) ≡ true
    → list_any (holds_unit unit) rows ≡ false
    → units_in (r ∷ []) ≡ unit ∷ []
    → distinct_units (units_in after) ≡ true
connected-distinct {V = V} {H = H} rows after r unit false is distinct none has = ap (λ (list : List (Row V H)). distinct_units (units_in list)) is ∙ distinct
connected-distinct {V = V} {H = H} rows after r unit true is distinct none has =
    ap (λ (list : List (Row V H)). distinct_units (units_in list)) is
    ∙ ap distinct_units (units_in-append rows (r ∷ []) ∙ ap (λ (us : List ℤ). units_in rows ++ us) has)
    ∙ distinct-with (units_in rows) [] unit (ap distinct_units (append-nil (units_in rows)) ∙ distinct)
    (ap (list_any (λ other. int_eq other unit)) (append-nil (units_in rows)) ∙ sym (any-held unit rows) ∙ none)

-- a device was offered, or memory was refused
pub offered-distinct :
    {V : Type 0} {H : V → Type 0} (rows after : List (Row V H)) (r : Row V H) (ok : Bool)
    → after ≡ (if ok then rows ++ r ∷ [] else rows)
    → distinct_units (units_in rows) ≡ true
    → units_in (r ∷ []) ≡ []
    → distinct_units (units_in after) ≡ true
offered-distinct {V = V} {H = H} rows after r false is distinct has = ap (λ (list : List (Row V H)). distinct_units (units_in list)) is ∙ distinct
offered-distinct {V = V} {H = H} rows after r true is distinct has =
    ap (λ (list : List (Row V H)). distinct_units (units_in list)) is
    ∙ ap distinct_units
    (units_in-append rows (r ∷ []) ∙ ap (λ (us : List ℤ). units_in rows ++ us) has ∙ append-nil (units_in rows))
    ∙ distinct

-- an offered row has no unit, and shows its name
pub record WasOffered (name : List ℕ) (unit : ℤ) (zero_blanks : Bool) (b a : table.Row) : Type 0 where
  pub device : DeviceState
  pub was : b ≡ Offers name device
  pub now : a ≡ Connects unit device false zero_blanks

pub was-offered :
    {V : Type 0} {H : V → Type 0} (state : DynBox V Global H → DeviceState) (name : List ℕ) (unit : ℤ) (zero_blanks : Bool) (r : Row V H) (after : table.Row)
    → holds_name name r ≡ true
    → BecomesConnected unit zero_blanks (shown state r) after
    → WasOffered name unit zero_blanks (shown state r) after
was-offered state name unit zero_blanks (row.Offered own device) after holds becomes =
    record {
      device = state device;
      was = ap (λ (n : List ℕ). Offers n (state device)) ((bytes_eq-Decides own name).0 holds);
      now = becomes;
    }
was-offered state name unit zero_blanks (row.Connected c) after holds becomes = absurd (cc)
was-offered state name unit zero_blanks row.Closed after holds becomes = absurd (cc)

offered-units : {V : Type 0} {H : V → Type 0} (name : List ℕ) (r : Row V H) → holds_name name r ≡ true → units_in (r ∷ []) ≡ []
offered-units name (row.Offered own device) holds = refl
offered-units name (row.Connected c) holds = absurd (cc)
offered-units name row.Closed holds = refl

pub opened-distinct :
    {V : Type 0} {H : V → Type 0} (state : DynBox V Global H → DeviceState) (name : List ℕ) (unit : ℤ) (zero_blanks : Bool)
    (rows : List (Row V H)) (n : ℕ) (r r' : Row V H)
    → distinct_units (units_in rows) ≡ true
    → is_connected unit (map (shown state) rows) ≡ false
    → IsFirstAt (holds_name name) rows n
    → r ≡ get_or rows n r
    → BecomesConnected unit zero_blanks (shown state r) (shown state r')
    → distinct_units (units_in (set rows n r')) ≡ true
opened-distinct {V = V} {H = H} state name unit zero_blanks rows n r r' distinct free is at becomes =
    let here : r ≡ is.item = item-at (holds_name name) rows n r is at
    in let t : WasOffered name unit zero_blanks (shown state is.item) (shown state r') =
    was-offered state name unit zero_blanks is.item (shown state r') is.holds
    (subst (λ (x : Row V H). BecomesConnected unit zero_blanks (shown state x) (shown state r')) here becomes)
    in let holds : holds_unit unit r' ≡ true =
    sym (holds-unit state unit r') ∙ ap (at_unit unit) t.now ∙ (Decides-int_eq unit unit).1 refl
    in let before : units_in rows ≡ units_in is.front ++ units_in is.back =
    ap (λ (list : List (Row V H)). units_in list) is.is
    ∙ units-split is.front is.back is.item
    ∙ ap (λ (us : List ℤ). units_in is.front ++ (us ++ units_in is.back)) (offered-units name is.item is.holds)
    in let none : list_any (λ other. int_eq other unit) (units_in is.front ++ units_in is.back) ≡ false =
    ap (list_any (λ other. int_eq other unit)) (sym before)
    ∙ sym (any-held unit rows)
    ∙ sym (any-unit state unit rows)
    ∙ free
    in ap (λ (list : List (Row V H)). distinct_units (units_in list)) (set-there (holds_name name) rows n r' is)
    ∙ ap distinct_units
    (units-split is.front is.back r'
    ∙ ap (λ (us : List ℤ). units_in is.front ++ (us ++ units_in is.back)) (units-held unit r' holds))
    ∙ distinct-with (units_in is.front) (units_in is.back) unit (ap distinct_units (sym before) ∙ distinct) none

pub opened :
    {T V : Type 0} {H : V → Type 0} (state : DynBox V Global H → DeviceState) (name : List ℕ) (unit : ℤ) (zero_blanks : Bool)
    (rows : List (Row V H)) (n : ℕ) (r r' : Row V H) (x : T)
    → is_connected unit (map (shown state) rows) ≡ false
    → IsFirstAt (holds_name name) rows n
    → r ≡ get_or rows n r
    → BecomesConnected unit zero_blanks (shown state r) (shown state r')
    → OpenedUnit unit name zero_blanks (map (shown state) rows) (map (shown state) (set rows n r')) (Ok x)
opened {V = V} {H = H} state name unit zero_blanks rows n r r' x free is at becomes =
    let here : r ≡ is.item = item-at (holds_name name) rows n r is at
    in let t : WasOffered name unit zero_blanks (shown state is.item) (shown state r') =
    was-offered state name unit zero_blanks is.item (shown state r') is.holds
    (subst (λ (y : Row V H). BecomesConnected unit zero_blanks (shown state y) (shown state r')) here becomes)
    in let offered : is_offered name (map (shown state) rows) ≡ true =
    any-name state name rows
    ∙ ap (λ (list : List (Row V H)). list_any (holds_name name) list) is.is
    ∙ some-inside (holds_name name) is.front is.back is.item is.holds
    in record {
      taken = (λ wrong. absurd (ok-err wrong), λ there. absurd (true-false (sym there ∙ free)));
      not_offered = (λ wrong. absurd (ok-err wrong), λ both. absurd (true-false (sym offered ∙ both.1)));
      done = (λ _. (free, offered), λ _. refl);
      opened =
          record {
            front = map (shown state) is.front;
            back = map (shown state) is.back;
            device = t.device;
            was =
                shown-was state (holds_name name) rows n is
                ∙ ap (λ (y : table.Row). map (shown state) is.front ++ y ∷ map (shown state) is.back) t.was;
            first = any-name state name is.front ∙ is.first;
            now =
                shown-now state (holds_name name) rows n r' is
                ∙ ap (λ (y : table.Row). map (shown state) is.front ++ y ∷ map (shown state) is.back) t.now;
          };
      kept = tt;
    }

pub open-taken :
    {T V : Type 0} {H : V → Type 0} (state : DynBox V Global H → DeviceState) (name : List ℕ) (unit : ℤ) (zero_blanks : Bool) (rows : List (Row V H))
    → is_connected unit (map (shown state) rows) ≡ true
    → OpenedUnit {T = T} unit name zero_blanks (map (shown state) rows) (map (shown state) rows) (Err Taken)
open-taken {T = T} state name unit zero_blanks rows there =
    record {
      taken = (λ _. there, λ _. refl);
      not_offered = (λ wrong. absurd (taken-not-offered {T = T} (Err Taken) refl wrong), λ both. absurd (true-false (sym there ∙ both.0)));
      done = (λ wrong. absurd (true-false (sym wrong)), λ both. absurd (true-false (sym there ∙ both.0)));
      opened = tt;
      kept = refl;
    }

pub open-nothing :
    {T V : Type 0} {H : V → Type 0} (state : DynBox V Global H → DeviceState) (name : List ℕ) (unit : ℤ) (zero_blanks : Bool) (rows : List (Row V H))
    → is_connected unit (map (shown state) rows) ≡ false
    → list_any (holds_name name) rows ≡ false
    → OpenedUnit {T = T} unit name zero_blanks (map (shown state) rows) (map (shown state) rows) (Err NotOffered)
open-nothing {T = T} state name unit zero_blanks rows free none =
    record {
      taken = (λ wrong. absurd (taken-not-offered {T = T} (Err NotOffered) wrong refl), λ there. absurd (true-false (sym there ∙ free)));
      not_offered = (λ _. (free, any-name state name rows ∙ none), λ _. refl);
      done = (λ wrong. absurd (true-false (sym wrong)), λ both. absurd (true-false (sym both.1 ∙ any-name state name rows ∙ none)));
      opened = tt;
      kept = refl;
    }

-- what `close_row` did to a row of this unit
pub record TurnedClosed (unit : ℤ) (b a : table.Row) (result : Result declared.Closed UnitRefusal) : Type 0 where
  pub device : DeviceState
  pub end_mark : Bool
  pub zero_blanks : Bool
  pub was : b ≡ Connects unit device end_mark zero_blanks
  pub did : ClosesRow unit zero_blanks device end_mark a result

pub turned-closed :
    {V : Type 0} {H : V → Type 0} (state : DynBox V Global H → DeviceState) (unit : ℤ) (r : Row V H) (after : table.Row)
    (result : Result declared.Closed UnitRefusal)
    → holds_unit unit r ≡ true
    → OnClosedRow (shown state r) after result
    → TurnedClosed unit (shown state r) after result
turned-closed state unit (row.Connected c) after result holds on =
    let same : c.unit ≡ unit = (Decides-int_eq c.unit unit).0 holds
    in record {
      device = state c.device;
      end_mark = c.end_mark;
      zero_blanks = c.zero_blanks;
      was = ap (λ (u : ℤ). Connects u (state c.device) c.end_mark c.zero_blanks) same;
      did = subst (λ (u : ℤ). ClosesRow u c.zero_blanks (state c.device) c.end_mark after result) same on;
    }
turned-closed state unit (row.Offered name device) after result holds on = absurd (cc)
turned-closed state unit row.Closed after result holds on = absurd (cc)

closed-units :
    {V : Type 0} {H : V → Type 0} (state : DynBox V Global H → DeviceState) (r : Row V H) → shown state r ≡ Closed → units_in (r ∷ []) ≡ []
closed-units state row.Closed is = refl
closed-units state (row.Offered name device) is = refl
closed-units state (row.Connected c) is = absurd (cc)

held-units :
    {V : Type 0} {H : V → Type 0} (state : DynBox V Global H → DeviceState) (unit : ℤ) (r : Row V H) (device : DeviceState) (m z : Bool)
    → shown state r ≡ Connects unit device m z
    → units_in (r ∷ []) ≡ unit ∷ []
held-units state unit r device m z is =
    units-held unit r (sym (holds-unit state unit r) ∙ ap (at_unit unit) is ∙ (Decides-int_eq unit unit).1 refl)

pub closed-distinct :
    {V : Type 0} {H : V → Type 0} (state : DynBox V Global H → DeviceState) (unit : ℤ) (rows : List (Row V H)) (n : ℕ) (r r' : Row V H)
    (result : Result declared.Closed UnitRefusal)
    → distinct_units (units_in rows) ≡ true
    → IsFirstAt (holds_unit unit) rows n
    → r ≡ get_or rows n r
    → OnClosedRow (shown state r) (shown state r') result
    → distinct_units (units_in (set rows n r')) ≡ true
closed-distinct {V = V} {H = H} state unit rows n r r' result distinct is at on =
    let here : r ≡ is.item = item-at (holds_unit unit) rows n r is at
    in let t : TurnedClosed unit (shown state is.item) (shown state r') result =
    turned-closed state unit is.item (shown state r') result is.holds
    (subst (λ (x : Row V H). OnClosedRow (shown state x) (shown state r') result) here on)
    in let before : distinct_units (units_in is.front ++ unit ∷ units_in is.back) ≡ true =
    sym
    (ap (λ (list : List (Row V H)). distinct_units (units_in list)) is.is
    ∙ ap distinct_units
    (units-split is.front is.back is.item
    ∙ ap (λ (us : List ℤ). units_in is.front ++ (us ++ units_in is.back)) (units-held unit is.item is.holds)))
    ∙ distinct
    in ap (λ (list : List (Row V H)). distinct_units (units_in list)) (set-there (holds_unit unit) rows n r' is)
    ∙ ap distinct_units (units-split is.front is.back r')
    ∙ by-result result t before
  where
    by-result : (answer : Result declared.Closed UnitRefusal) → TurnedClosed unit (shown state is.item) (shown state r') answer → distinct_units (units_in is.front ++ unit ∷ units_in is.back) ≡ true → distinct_units (units_in is.front ++ (units_in (r' ∷ []) ++ units_in is.back)) ≡ true
    by-result (Ok closed) t before =
        ap (λ (us : List ℤ). distinct_units (units_in is.front ++ (us ++ units_in is.back))) (closed-units state r' t.did.closed.0)
        ∙ distinct-without (units_in is.front) (units_in is.back) unit before
    by-result (Err refused) t before =
        ap (λ (us : List ℤ). distinct_units (units_in is.front ++ (us ++ units_in is.back)))
        (held-units state unit r' t.did.failed.device' t.did.failed.end_mark' t.zero_blanks t.did.failed.is)
        ∙ before

pub closed :
    {V : Type 0} {H : V → Type 0} (state : DynBox V Global H → DeviceState) (unit : ℤ) (rows : List (Row V H)) (n : ℕ) (r r' : Row V H)
    (result : Result declared.Closed UnitRefusal)
    → distinct_units (units_in rows) ≡ true
    → IsFirstAt (holds_unit unit) rows n
    → r ≡ get_or rows n r
    → OnClosedRow (shown state r) (shown state r') result
    → ClosedUnit unit (map (shown state) rows) (map (shown state) (set rows n r')) result
closed {V = V} {H = H} state unit rows n r r' result distinct is at on =
    by-result result
    (turned-closed state unit is.item (shown state r') result is.holds
    (subst (λ (x : Row V H). OnClosedRow (shown state x) (shown state r') result) (item-at (holds_unit unit) rows n r is at) on))
  where
    connected : is_connected unit (map (shown state) rows) ≡ true
    connected =
        any-unit state unit rows
        ∙ ap (λ (list : List (Row V H)). list_any (holds_unit unit) list) is.is
        ∙ some-inside (holds_unit unit) is.front is.back is.item is.holds

    was : (t : table.Row) → shown state is.item ≡ t → map (shown state) rows ≡ map (shown state) is.front ++ t ∷ map (shown state) is.back
    was t same =
        shown-was state (holds_unit unit) rows n is
        ∙ ap (λ (x : table.Row). map (shown state) is.front ++ x ∷ map (shown state) is.back) same

    now : (t : table.Row) → shown state r' ≡ t → map (shown state) (set rows n r') ≡ map (shown state) is.front ++ t ∷ map (shown state) is.back
    now t same =
        shown-now state (holds_unit unit) rows n r' is
        ∙ ap (λ (x : table.Row). map (shown state) is.front ++ x ∷ map (shown state) is.back) same

    by-result : (answer : Result declared.Closed UnitRefusal) → TurnedClosed unit (shown state is.item) (shown state r') answer → ClosedUnit unit (map (shown state) rows) (map (shown state) (set rows n r')) answer
    by-result (Ok done) t =
        record {
          closed =
              record {
                front = map (shown state) is.front;
                back = map (shown state) is.back;
                device = t.device;
                end_mark = t.end_mark;
                zero_blanks = t.zero_blanks;
                was = was (Connects unit t.device t.end_mark t.zero_blanks) t.was;
                now = now Closed t.did.closed.0;
                free =
                    ap (is_connected unit) (now Closed t.did.closed.0)
                    ∙ none-parts (at_unit unit) (map (shown state) is.front) (Closed ∷ map (shown state) is.back)
                    (none-front (at_unit unit) (map (shown state) is.front) (map (shown state) is.back) (alone-there state unit rows n is distinct))
                    (none-back (at_unit unit) (map (shown state) is.front) (map (shown state) is.back) (alone-there state unit rows n is distinct));
                count = t.did.closed.1;
              };
          failed = λ wrong. absurd (ok-err wrong);
          missing = λ wrong. absurd (ok-err wrong);
          refused = (λ wrong. absurd (ok-err wrong), λ free. absurd (true-false (sym connected ∙ free)));
          other = tt;
        }
    by-result (Err refused) t =
        record {
          closed = tt;
          failed =
              λ _.
              record {
                front = map (shown state) is.front;
                back = map (shown state) is.back;
                device = t.device;
                device' = t.did.failed.device';
                end_mark = t.end_mark;
                end_mark' = t.did.failed.end_mark';
                zero_blanks = t.zero_blanks;
                was = was (Connects unit t.device t.end_mark t.zero_blanks) t.was;
                now = now (Connects unit t.did.failed.device' t.did.failed.end_mark' t.zero_blanks) t.did.failed.is;
                alone = alone-there state unit rows n is distinct;
                did = t.did.failed.did;
              };
          missing = λ wrong. absurd (failed-only {T = declared.Closed} (Err refused) t.did.refused wrong);
          refused =
              (λ wrong. absurd (failed-only {T = declared.Closed} (Err refused) t.did.refused wrong), λ free. absurd (true-false (sym connected ∙ free)));
          other = failed-missing refused t.did.refused;
        }

pub close-missing :
    {V : Type 0} {H : V → Type 0} (state : DynBox V Global H → DeviceState) (unit : ℤ) (rows : List (Row V H))
    → list_any (holds_unit unit) rows ≡ false
    → ClosedUnit unit (map (shown state) rows) (map (shown state) rows) (Err NotConnected)
close-missing state unit rows none =
    record {
      closed = tt;
      failed = λ wrong. absurd (missing-failed {T = declared.Closed} (Err NotConnected) refl wrong);
      missing = λ _. refl;
      refused = (λ _. any-unit state unit rows ∙ none, λ _. refl);
      other = tt;
    }

-- the same unit, as a call was given it
pub at-same-unit :
    {V : Type 0} {H : V → Type 0} (state : DynBox V Global H → DeviceState) (rows : List (Row V H)) (given unit : ℤ) (answer b : Bool)
    → given ≡ unit
    → answer ≡ is_connected given (map (shown state) rows)
    → answer ≡ b
    → is_connected unit (map (shown state) rows) ≡ b
at-same-unit state rows given unit answer b same is holds =
    sym (ap (λ (u : ℤ). is_connected u (map (shown state) rows)) same) ∙ sym is ∙ holds

pub becomes-same :
    (given unit : ℤ) (zero_blanks : Bool) (b a : table.Row)
    → given ≡ unit
    → BecomesConnected given zero_blanks b a
    → BecomesConnected unit zero_blanks b a
becomes-same given unit zero_blanks b a same becomes = subst (λ (u : ℤ). BecomesConnected u zero_blanks b a) same becomes
