-- What the steps of a DO do to its variable: what is put is fetched, and the test of the text is FORTRAN's count. ANSI X3.9-1978, section 11.10.
use Rattle.std.specs.Prelude.{◌≡◌, ℕ, zero, suc, ◌+◌, ◌≤◌, nat_le, ℤ, pos, ◌+ℤ◌, int_lt, int_le, Bool, true, false, ◌&&◌, List, [], ◌∷◌, ◌++◌, length, take, drop, Option, Some, None, slice_get, slice_set, if◌then◌else◌}
use Rattle.std.specs.Ordering.{int_eq}
use Rattle.std.proofs.Common.{refl, sym, ap, ◌∙◌, arith}
use Rattle.std.proofs.lemmas.Bool.{and_parts, leb-true}
use Rattle.fortran_laws.specs.f_tree.declared.names.Basic.{Basic}
use Rattle.fortran_laws.specs.f_tree.declared.names.Basic.TheVariants as basic
use Rattle.fortran_laws.specs.f_tree.Values as value
use Rattle.fortran_laws.specs.f_tree.Values.{Spot, Datum, IsInt, IsLog, IsSpot, Checked, Gives, Fails, given_that, checked}
use Rattle.fortran_laws.specs.f_tree.Terms.{IsLess, IsLessOrEqual, IsGreaterOrEqual, Add}
use Rattle.fortran_laws.specs.f_tree.Store.{Whole, Number, Cell, Part, Sequence, Store, whole_of, whole_at, value_of_type, same_whole, fetch_as, fetch_from, fetch_in, fetch, with_whole, defined_as, stored_in, has_room, define_in, define}
use Rattle.fortran_laws.specs.f_tree.Facts.{Facts, Frame}
use Rattle.fortran_laws.specs.f_tree.Valuing.{left_of, operated, on_integers, fetched}
use Rattle.fortran_laws.specs.f_tree.Step.{Grown, grown_to, grown_from, grown}
use Rattle.lowering.specs.l_core.Pures.{Pure, Constant, Temporary, Load, Name, AllOf, ElementOf, FirstOf, Substring, Concatenated, Prefixed, Operated, Applied, Chosen, Temporaries, where_wanted, chosen, meant}
use Rattle.lowering.specs.Statements.{test_by}
use Rattle.lowering_laws.proofs.TurnLemmas.{allows}

-- ## What is put is fetched

four : (w : Whole) → same_whole w w ≡ true → (more : List Cell) → whole_of (take 4 (Part w 0 ∷ Part w 1 ∷ Part w 2 ∷ Part w 3 ∷ more)) ≡ Some w
unfolding whole_of
four w same more = ap (λ b. if b && (b && b) then Some w else None) same

int_same : (z : ℤ) → int_eq z z ≡ true
int_same z = grind arith

number_same : (z : ℤ) → same_whole (Number z) (Number z) ≡ true
unfolding same_whole
number_same z = int_same z

dropped_front : (n : ℕ) (cells more : List Cell) → n ≤ length cells → drop n (take n cells ++ more) ≡ more
dropped_front zero cells more le = refl
dropped_front (suc n) [] more le = absurd (omega (arith, le))
dropped_front (suc n) (c ∷ cells) more le = dropped_front n cells more (omega (arith, le))

put_whole : (w : Whole) (first : ℕ) (cells : List Cell) → same_whole w w ≡ true → first ≤ length cells → whole_at first (with_whole w first cells) ≡ Some w
unfolding whole_at with_whole
put_whole w first cells same le = ap (λ z. whole_of (take 4 z)) (dropped_front first cells _ le) ∙ four w same (drop (first + 4) cells)

set_there : (s : Store) (n : ℕ) (q q' : Sequence) → slice_get s n ≡ Some q → slice_get (slice_set s n q') n ≡ Some q'
set_there [] zero q q' e = absurd (cc)
set_there [] (suc n) q q' e = absurd (cc)
set_there (x ∷ s) zero q q' e = refl
set_there (x ∷ s) (suc n) q q' e = set_there s n q q' e

-- a place of type INTEGER
record IsDefined (p : Spot) (z : ℤ) (cells cells' : List Cell) : Type 0 where
  integer : p.basic ≡ basic.Integer
  is : cells' ≡ with_whole (Number z) p.first cells

defined_by : (b : Basic) (p : Spot) (z : ℤ) (cells cells' : List Cell) → p.basic ≡ b → defined_as b p (IsInt z) cells ≡ Gives cells' → IsDefined p z cells cells'
unfolding defined_as
defined_by basic.Integer p z cells cells' is e = record { integer = is; is = (let same : cells' ≡ with_whole (Number z) p.first cells = cc in same) }
defined_by basic.Logical p z cells cells' is e = absurd (cc)
defined_by basic.Character p z cells cells' is e = absurd (cc)
defined_by basic.Untyped p z cells cells' is e = absurd (cc)

fetched_by : (b : Basic) (p : Spot) (z : ℤ) (cells : List Cell) → b ≡ basic.Integer → whole_at p.first cells ≡ Some (Number z) → fetch_as b p cells ≡ Gives (IsInt z)
unfolding fetch_as value_of_type
fetched_by basic.Integer p z cells is e = ap (value_of_type basic.Integer) e
fetched_by basic.Logical p z cells is e = absurd (cc)
fetched_by basic.Character p z cells is e = absurd (cc)
fetched_by basic.Untyped p z cells is e = absurd (cc)

stored_by : (s : Store) (p : Spot) (z : ℤ) (q : Sequence) (s' : Store) (x : Checked (List Cell)) → slice_get s p.sequence ≡ Some q → has_room p q.cells ≡ true → defined_as p.basic p (IsInt z) q.cells ≡ x → stored_in s p.sequence x ≡ Gives s' → fetch s' p ≡ Gives (IsInt z)
unfolding stored_in has_room fetch fetch_in fetch_from
stored_by s p z q s' (Fails act) at room is e = absurd (cc)
stored_by s p z q s' (Gives cells) at room is e =
    let new : Sequence = record { cells = cells; read_only = false } in
    let same : slice_set s p.sequence new ≡ s' = cc in
    let parts = and_parts (nat_le p.width p.extent) (nat_le (p.first + p.width) (length q.cells)) room in
    let defined = defined_by p.basic p z q.cells cells refl is in
    let long = leb-true (p.first + p.width) (length q.cells) parts.1 in
    let held : whole_at p.first cells ≡ Some (Number z) = ap (whole_at p.first) defined.is ∙ put_whole (Number z) p.first q.cells (number_same z) (omega (arith, long)) in
    ap (λ t. fetch_in p (slice_get t p.sequence)) (sym same) ∙ ap (fetch_in p) (set_there s p.sequence q new at)
    ∙ ap (λ (b : Bool). if b then fetch_as p.basic p cells else Fails value.PastExtent) parts.0 ∙ fetched_by p.basic p z cells defined.integer held

room_by : (s : Store) (p : Spot) (z : ℤ) (q : Sequence) (s' : Store) (b : Bool) → slice_get s p.sequence ≡ Some q → has_room p q.cells ≡ b →
    (if b then stored_in s p.sequence (defined_as p.basic p (IsInt z) q.cells) else Fails value.PastExtent) ≡ Gives s' → fetch s' p ≡ Gives (IsInt z)
room_by s p z q s' true at room e = stored_by s p z q s' (defined_as p.basic p (IsInt z) q.cells) at room refl e
room_by s p z q s' false at room e = absurd (cc)

writable_by : (s : Store) (p : Spot) (z : ℤ) (q : Sequence) (s' : Store) (b : Bool) → slice_get s p.sequence ≡ Some q →
    (if b then Fails value.DefinesReadOnly else if has_room p q.cells then stored_in s p.sequence (defined_as p.basic p (IsInt z) q.cells) else Fails value.PastExtent) ≡ Gives s' → fetch s' p ≡ Gives (IsInt z)
writable_by s p z q s' true at e = absurd (cc)
writable_by s p z q s' false at e = room_by s p z q s' (has_room p q.cells) at refl e

there_by : (s : Store) (p : Spot) (z : ℤ) (s' : Store) (x : Option Sequence) → slice_get s p.sequence ≡ x → define_in s p (IsInt z) x ≡ Gives s' → fetch s' p ≡ Gives (IsInt z)
unfolding define_in
there_by s p z s' None at e = absurd (cc)
there_by s p z s' (Some q) at e = writable_by s p z q s' q.read_only at e

pub put_fetched : (s : Store) (p : Spot) (z : ℤ) (s' : Store) → define s p (IsInt z) ≡ Gives s' → fetch s' p ≡ Gives (IsInt z)
unfolding define
put_fetched s p z s' e = there_by s p z s' (slice_get s p.sequence) refl e

-- ## An increment

pub record IsGrown (s : Store) (p : Spot) (by given : ℤ) (g : Grown) : Type 0 where
  pub held : fetch s p ≡ Gives (IsInt given)
  pub sum : checked (given +ℤ by) ≡ Gives (IsInt (given +ℤ by))
  pub put : define s p (IsInt (given +ℤ by)) ≡ Gives g.store
  pub value : g.given ≡ given +ℤ by

checked_is : (z : ℤ) (b : Bool) (d : Datum) → (if b then Gives (IsInt z) else Fails value.Overflow) ≡ Gives d → d ≡ IsInt z
checked_is z true d e = (let same : d ≡ IsInt z = cc in same)
checked_is z false d e = absurd (cc)

checked_same : (z : ℤ) (d : Datum) → checked z ≡ Gives d → d ≡ IsInt z
unfolding checked
checked_same z d e = checked_is z (value.in_range z) d e

grown_store : (s' : Checked Store) (z : ℤ) (g : Grown) → given_that s' (λ t. Gives (record { store = t; given = z })) ≡ Gives g → (s' ≡ Gives g.store) × (g.given ≡ z)
unfolding given_that
grown_store (Gives t) z g e = let same : record { store = t; given = z } ≡ g = cc in (ap (λ (x : Grown). Gives x.store) same, ap (λ (x : Grown). x.given) (sym same))
grown_store (Fails act) z g e = absurd (cc)

grown_sum : (s : Store) (p : Spot) (by given : ℤ) (g : Grown) (x : Checked Datum) → checked (given +ℤ by) ≡ x → fetch s p ≡ Gives (IsInt given) → grown_to s p (given +ℤ by) x ≡ Gives g → IsGrown s p by given g
unfolding grown_to
grown_sum s p by given g (Gives d) sum held e =
    let is = checked_same (given +ℤ by) d sum in
    let parts = grown_store (define s p d) (given +ℤ by) g e in
    record { held = held; sum = sum ∙ ap Gives is; put = ap (define s p) (sym is) ∙ parts.0; value = parts.1 }
grown_sum s p by given g (Fails act) sum held e = absurd (cc)

grown_if : (s : Store) (p : Spot) (by given z : ℤ) (g : Grown) (b : Bool) → int_eq z given ≡ b → fetch s p ≡ Gives (IsInt z) → (if b then grown_to s p (given +ℤ by) (checked (given +ℤ by)) else Fails value.LoopVariableChanged) ≡ Gives g → IsGrown s p by given g
grown_if s p by given z g true same held e = grown_sum s p by given g (checked (given +ℤ by)) refl (held ∙ ap (λ n. Gives (IsInt n)) (grind (arith, same))) e
grown_if s p by given z g false same held e = absurd (cc)

grown_by : (s : Store) (p : Spot) (by given : ℤ) (g : Grown) (x : Checked Datum) → fetch s p ≡ x → grown_from s p by given x ≡ Gives g → IsGrown s p by given g
unfolding grown_from
grown_by s p by given g (Gives (IsInt z)) held e = grown_if s p by given z g (int_eq z given) refl held e
grown_by s p by given g (Gives (IsLog b)) held e = absurd (cc)
grown_by s p by given g (Gives (value.IsText cs)) held e = absurd (cc)
grown_by s p by given g (Gives (IsSpot q)) held e = absurd (cc)
grown_by s p by given g (Gives (value.IsProc x)) held e = absurd (cc)
grown_by s p by given g (Gives (value.IsLabel l)) held e = absurd (cc)
grown_by s p by given g (Gives value.Nothing) held e = absurd (cc)
grown_by s p by given g (Fails act) held e = absurd (cc)

pub grown_is : (s : Store) (p : Spot) (by given : ℤ) (g : Grown) → grown s p by given ≡ Gives g → IsGrown s p by given g
unfolding grown
grown_is s p by given g e = grown_by s p by given g (fetch s p) refl e

-- ## The test

module _ (c : Facts) (f : Frame) (m : Temporaries) (s : Store) (x limit : Pure) (p : Spot) (v l : ℤ) (place : meant c f m s x ≡ Gives (IsSpot p)) (held : fetch s p ≡ Gives (IsInt v)) (bound : meant c f m s limit ≡ Gives (IsInt l)) where
  loaded : meant c f m s (Load x) ≡ Gives (IsInt v)
  unfolding meant given_that fetched
  loaded = ap (λ y. given_that y (fetched s)) place ∙ held

  at_most : meant c f m s (Operated IsLessOrEqual (Load x) limit) ≡ Gives (IsLog (int_le v l))
  unfolding meant given_that where_wanted left_of operated on_integers
  at_most = ap (λ y. given_that y (λ a. where_wanted (left_of IsLessOrEqual a) (given_that (meant c f m s limit) (operated IsLessOrEqual a)))) loaded ∙ ap (λ y. given_that y (operated IsLessOrEqual (IsInt v))) bound

  at_least : meant c f m s (Operated IsGreaterOrEqual (Load x) limit) ≡ Gives (IsLog (int_le l v))
  unfolding meant given_that where_wanted left_of operated on_integers
  at_least = ap (λ y. given_that y (λ a. where_wanted (left_of IsGreaterOrEqual a) (given_that (meant c f m s limit) (operated IsGreaterOrEqual a)))) loaded ∙ ap (λ y. given_that y (operated IsGreaterOrEqual (IsInt v))) bound

  of_sign : (z : ℤ) (b : Bool) → meant c f m s (if b then Operated IsGreaterOrEqual (Load x) limit else Operated IsLessOrEqual (Load x) limit) ≡ Gives (IsLog (if b then int_le l v else int_le v l))
  of_sign z true = at_least
  of_sign z false = at_most

  abbrev SignTest : Pure → Pure
  SignTest by = Chosen (Operated IsLess by (Constant (IsInt (pos 0)))) (Operated IsGreaterOrEqual (Load x) limit) (Operated IsLessOrEqual (Load x) limit)

  chosen_one : (t : Bool) → chosen (IsLog t) (meant c f m s (Operated IsGreaterOrEqual (Load x) limit)) (meant c f m s (Operated IsLessOrEqual (Load x) limit)) ≡ Gives (IsLog (if t then int_le l v else int_le v l))
  unfolding chosen
  chosen_one true = at_least
  chosen_one false = at_most

  by_sign : (by : Pure) (z : ℤ) → meant c f m s by ≡ Gives (IsInt z) → meant c f m s (SignTest by) ≡ Gives (IsLog (allows v l z))
  unfolding meant given_that where_wanted left_of operated on_integers
  by_sign by z is =
      ap (λ y. given_that (given_that y (λ a. where_wanted (left_of IsLess a) (given_that (Gives (IsInt (pos 0))) (operated IsLess a)))) (λ d. chosen d (meant c f m s (Operated IsGreaterOrEqual (Load x) limit)) (meant c f m s (Operated IsLessOrEqual (Load x) limit)))) is
      ∙ chosen_one (int_lt z (pos 0))

  constant_test : (d : Datum) (z : ℤ) → meant c f m s (Constant d) ≡ Gives (IsInt z) → meant c f m s (test_by x limit (Constant d)) ≡ Gives (IsLog (allows v l z))
  unfolding test_by meant
  constant_test (IsInt z') z is = let same : z' ≡ z = cc in of_sign z' (int_lt z' (pos 0)) ∙ ap (λ n. Gives (IsLog (allows v l n))) same
  constant_test (IsLog b) z is = absurd (cc)
  constant_test (value.IsText cs) z is = absurd (cc)
  constant_test (IsSpot q) z is = absurd (cc)
  constant_test (value.IsProc y) z is = absurd (cc)
  constant_test (value.IsLabel k) z is = absurd (cc)
  constant_test value.Nothing z is = absurd (cc)

  pub test_meant : (by : Pure) (z : ℤ) → meant c f m s by ≡ Gives (IsInt z) → meant c f m s (test_by x limit by) ≡ Gives (IsLog (allows v l z))
  unfolding test_by
  test_meant (Constant d) z is = constant_test d z is
  test_meant (Temporary k) z is = by_sign (Temporary k) z is
  test_meant (Load q) z is = by_sign (Load q) z is
  test_meant (Name y) z is = by_sign (Name y) z is
  test_meant (AllOf y) z is = by_sign (AllOf y) z is
  test_meant (ElementOf y ps) z is = by_sign (ElementOf y ps) z is
  test_meant (FirstOf q) z is = by_sign (FirstOf q) z is
  test_meant (Substring y q from to) z is = by_sign (Substring y q from to) z is
  test_meant (Concatenated ps) z is = by_sign (Concatenated ps) z is
  test_meant (Prefixed op q) z is = by_sign (Prefixed op q) z is
  test_meant (Operated op q r) z is = by_sign (Operated op q r) z is
  test_meant (Applied function ps) z is = by_sign (Applied function ps) z is
  test_meant (Chosen a b d) z is = by_sign (Chosen a b d) z is

-- the next value of the variable
pub sum_meant : (c : Facts) (f : Frame) (m : Temporaries) (s : Store) (x by : Pure) (p : Spot) (v z : ℤ) → meant c f m s x ≡ Gives (IsSpot p) → fetch s p ≡ Gives (IsInt v) → meant c f m s by ≡ Gives (IsInt z) →
    checked (v +ℤ z) ≡ Gives (IsInt (v +ℤ z)) → meant c f m s (Operated Add (Load x) by) ≡ Gives (IsInt (v +ℤ z))
unfolding meant given_that where_wanted left_of operated on_integers fetched
sum_meant c f m s x by p v z place held step sum =
    ap (λ y. given_that (given_that y (fetched s)) (λ a. where_wanted (left_of Add a) (given_that (meant c f m s by) (operated Add a)))) place
    ∙ ap (λ y. given_that y (λ a. where_wanted (left_of Add a) (given_that (meant c f m s by) (operated Add a)))) held
    ∙ ap (λ y. given_that y (operated Add (IsInt v))) step ∙ sum
