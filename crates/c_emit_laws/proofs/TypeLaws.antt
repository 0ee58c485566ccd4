-- The types of lowered values.
use Rattle.std.specs.Prelude.{◌≡◌, ℕ, ℤ, pos, ◌+◌, ◌-◌, ◌*◌, nat_le, ◌+ℤ◌, ◌-ℤ◌, ◌*ℤ◌, nat_abs, int_div, int_rem, Bool, true, false, List, [], ◌∷◌, Option, Some, None, if◌then◌else◌}
use Rattle.std.specs.Ordering.{int_eq}
use Rattle.std.proofs.Common.{refl, sym, ap, ◌∙◌, subst}
use Rattle.c_emit.specs.f_tree.declared.names.Basic.{Basic}
use Rattle.c_emit.specs.f_tree.declared.names.Basic.TheVariants as basic
use Rattle.c_emit.specs.f_tree.Values.{Bytes, Spot, Datum, IsInt, IsLog, IsText, IsSpot, Checked, Gives, Fails, ZeroDivide, checked, given_that}
use Rattle.c_emit.specs.f_tree.Values as fortran
use Rattle.c_emit.specs.f_tree.Terms.{Prefix, Operator, Function}
use Rattle.c_emit.specs.f_tree.Terms as operation
use Rattle.c_emit.specs.f_tree.Store.{Store, Whole, Number, Truth, Cell, fetch_as, value_of_type, whole_at}
use Rattle.c_emit.specs.f_tree.Facts.{Bounds, Frame}
use Rattle.c_emit.specs.f_tree.Valuing.{prefixed, operated, on_integers, on_logicals, on_texts, divided, Left, Decided, Wants, Wrong, left_of, applied, extreme, int_max, int_min, remainder_of, fetched, whole, further, element_at, element, bounds_of, elements_before}
use Rattle.c_emit.specs.l_core.Pures.{Pure, Constant, Temporary, Load, Name, AllOf, ElementOf, FirstOf, Substring, Concatenated, Prefixed, Operated, Applied, Chosen, Temporaries, where_wanted, if_kept, meant, all_meant}
use Rattle.c_image_laws.proofs.FetchedPlaces.{is_fetched}
use Rattle.c_image_laws.proofs.OperatorValues.{is_checked}
use Rattle.c_emit.specs.Numbers.{Writing}
use Rattle.c_emit.specs.Types.{HasType, type_of_datum, type_behind, type_between, type_by, if_numeric, type_at, type_of}
use Rattle.c_emit_laws.specs.EmittedTypes.{AreTyped, PlacesAreTyped, TypesAreRight}
use Rattle.c_emit_laws.proofs.Choices.{got, some_same}

is_number : (z : ℤ) (d : Datum) → Gives (IsInt z) ≡ Gives d → HasType basic.Integer d
is_number z d h = let same : IsInt z ≡ d = (let e = h in cc) in subst (HasType basic.Integer) same tt

is_truth : (b : Bool) (d : Datum) → Gives (IsLog b) ≡ Gives d → HasType basic.Logical d
is_truth b d h = let same : IsLog b ≡ d = (let e = h in cc) in subst (HasType basic.Logical) same tt

is_in_range : (z : ℤ) (d : Datum) → checked z ≡ Gives d → HasType basic.Integer d
is_in_range z d h = let found = is_checked z d h in subst (HasType basic.Integer) (sym found.is) tt

-- ## Operators

prefixed_type : (op : Prefix) (a d : Datum) → prefixed op a ≡ Gives d → HasType (type_behind op) d
unfolding prefixed type_behind
prefixed_type operation.Negate (IsInt z) d h = is_in_range _ d h
prefixed_type operation.Complement (IsLog b) d h = is_truth _ d h
prefixed_type _ _ d h = absurd (cc)

divided_type : (test : Bool) (a b : ℤ) (d : Datum) → (if test then Fails ZeroDivide else checked (int_div a b)) ≡ Gives d → HasType basic.Integer d
divided_type true a b d h = absurd (cc)
divided_type false a b d h = is_in_range (int_div a b) d h

integers_type : (op : Operator) (a b : ℤ) (d : Datum) → on_integers op a b ≡ Gives d → HasType (type_between op) d
unfolding on_integers divided type_between
integers_type operation.Add a b d h = is_in_range (a +ℤ b) d h
integers_type operation.Subtract a b d h = is_in_range (a -ℤ b) d h
integers_type operation.Multiply a b d h = is_in_range (a *ℤ b) d h
integers_type operation.Divide a b d h = divided_type (int_eq b (pos 0)) a b d h
integers_type operation.IsLess a b d h = is_truth _ d h
integers_type operation.IsLessOrEqual a b d h = is_truth _ d h
integers_type operation.IsEqual a b d h = is_truth _ d h
integers_type operation.IsNotEqual a b d h = is_truth _ d h
integers_type operation.IsGreater a b d h = is_truth _ d h
integers_type operation.IsGreaterOrEqual a b d h = is_truth _ d h
integers_type operation.Both a b d h = absurd (cc)
integers_type operation.Either a b d h = absurd (cc)
integers_type operation.Same a b d h = absurd (cc)
integers_type operation.Different a b d h = absurd (cc)

logicals_type : (op : Operator) (a b : Bool) (d : Datum) → on_logicals op a b ≡ Gives d → HasType (type_between op) d
unfolding on_logicals type_between
logicals_type operation.Both a b d h = is_truth _ d h
logicals_type operation.Either a b d h = is_truth _ d h
logicals_type operation.Same a b d h = is_truth _ d h
logicals_type operation.Different a b d h = is_truth _ d h
logicals_type operation.Add a b d h = absurd (cc)
logicals_type operation.Subtract a b d h = absurd (cc)
logicals_type operation.Multiply a b d h = absurd (cc)
logicals_type operation.Divide a b d h = absurd (cc)
logicals_type operation.IsLess a b d h = absurd (cc)
logicals_type operation.IsLessOrEqual a b d h = absurd (cc)
logicals_type operation.IsEqual a b d h = absurd (cc)
logicals_type operation.IsNotEqual a b d h = absurd (cc)
logicals_type operation.IsGreater a b d h = absurd (cc)
logicals_type operation.IsGreaterOrEqual a b d h = absurd (cc)

texts_type : (op : Operator) (a b : Bytes) (d : Datum) → on_texts op a b ≡ Gives d → HasType (type_between op) d
unfolding on_texts type_between
texts_type operation.IsLess a b d h = is_truth _ d h
texts_type operation.IsLessOrEqual a b d h = is_truth _ d h
texts_type operation.IsEqual a b d h = is_truth _ d h
texts_type operation.IsNotEqual a b d h = is_truth _ d h
texts_type operation.IsGreater a b d h = is_truth _ d h
texts_type operation.IsGreaterOrEqual a b d h = is_truth _ d h
texts_type operation.Add a b d h = absurd (cc)
texts_type operation.Subtract a b d h = absurd (cc)
texts_type operation.Multiply a b d h = absurd (cc)
texts_type operation.Divide a b d h = absurd (cc)
texts_type operation.Both a b d h = absurd (cc)
texts_type operation.Either a b d h = absurd (cc)
texts_type operation.Same a b d h = absurd (cc)
texts_type operation.Different a b d h = absurd (cc)

operated_type : (op : Operator) (a b d : Datum) → operated op a b ≡ Gives d → HasType (type_between op) d
unfolding operated
operated_type op (IsInt a) (IsInt b) d h = integers_type op a b d h
operated_type op (IsLog a) (IsLog b) d h = logicals_type op a b d h
operated_type op (IsText a) (IsText b) d h = texts_type op a b d h
operated_type op _ _ d h = absurd (cc)

-- a left operand that decides is a truth value
decided_type : (op : Operator) (a e : Datum) → left_of op a ≡ Decided e → HasType (type_between op) e
unfolding left_of type_between
decided_type operation.Both (IsLog false) e h = let same : IsLog false ≡ e = (let g = h in cc) in subst (HasType basic.Logical) same tt
decided_type operation.Either (IsLog true) e h = let same : IsLog true ≡ e = (let g = h in cc) in subst (HasType basic.Logical) same tt
decided_type _ _ e h = absurd (cc)

wanted_type : (op : Operator) (a d : Datum) (right : Checked Datum) → where_wanted (left_of op a) (given_that right (operated op a)) ≡ Gives d → HasType (type_between op) d
unfolding where_wanted
wanted_type op a d right h = by (left_of op a) refl h
  where
    by : (left : Left) → left_of op a ≡ left → where_wanted left (given_that right (operated op a)) ≡ Gives d → HasType (type_between op) d
    by Wants is e = let g = got right (operated op a) d e in operated_type op a g.value d g.gives
    by (Decided x) is e = let same : x ≡ d = (let i = e in cc) in subst (HasType (type_between op)) same (decided_type op a x is)
    by Wrong is e = absurd (cc)

-- ## Functions

remainder_type : (test : Bool) (a b : ℤ) (d : Datum) (found : Checked Datum) → (if test then Fails ZeroDivide else given_that found (λ q. Gives (IsInt (int_rem a b)))) ≡ Gives d → HasType basic.Integer d
unfolding given_that
remainder_type true a b d found h = absurd (cc)
remainder_type false a b d (Gives q) h = is_number (int_rem a b) d h
remainder_type false a b d (Fails act) h = absurd (cc)

extreme_type : (pick : ℤ → ℤ → ℤ) (best : ℤ) (ds : List Datum) (d : Datum) → extreme pick best ds ≡ Gives d → HasType basic.Integer d
unfolding extreme
extreme_type pick best [] d h = is_number best d h
extreme_type pick best (IsInt z ∷ ds) d h = extreme_type pick (pick best z) ds d h
extreme_type pick best (_ ∷ ds) d h = absurd (cc)

applied_type : (f : Function) (ds : List Datum) (d : Datum) (b : Basic) → type_by f ≡ Some b → applied f ds ≡ Gives d → HasType b d
unfolding applied remainder_of type_by
applied_type operation.Truncation (IsInt a ∷ []) d b is h = subst (λ y. HasType y d) (some_same basic.Integer b is) (is_number a d h)
applied_type operation.Magnitude (IsInt a ∷ []) d b is h = subst (λ y. HasType y d) (some_same basic.Integer b is) (is_in_range (pos (nat_abs a)) d h)
applied_type operation.Remainder (IsInt x ∷ IsInt y ∷ []) d b is h = subst (λ z. HasType z d) (some_same basic.Integer b is) (remainder_type (int_eq y (pos 0)) x y d (checked (int_div x y)) h)
applied_type operation.Largest (IsInt a ∷ ds) d b is h = subst (λ y. HasType y d) (some_same basic.Integer b is) (extreme_type int_max a ds d h)
applied_type operation.Smallest (IsInt a ∷ ds) d b is h = subst (λ y. HasType y d) (some_same basic.Integer b is) (extreme_type int_min a ds d h)
applied_type _ ds d b is h = absurd (cc)

-- ## Fetches

whole_type : (b : Basic) (found : Option Whole) (d : Datum) → value_of_type b found ≡ Gives d → HasType b d
unfolding value_of_type
whole_type basic.Integer (Some (Number z)) d h = is_number z d h
whole_type basic.Logical (Some (Truth x)) d h = is_truth x d h
whole_type _ _ d h = absurd (cc)

fetched_type : (b : Basic) (p : Spot) (cells : List Cell) (d : Datum) (wanted : Basic) → if_numeric b ≡ Some wanted → fetch_as b p cells ≡ Gives d → HasType wanted d
unfolding fetch_as if_numeric
fetched_type basic.Integer p cells d wanted is h = subst (λ y. HasType y d) (some_same basic.Integer wanted is) (whole_type basic.Integer (whole_at p.first cells) d h)
fetched_type basic.Logical p cells d wanted is h = subst (λ y. HasType y d) (some_same basic.Logical wanted is) (whole_type basic.Logical (whole_at p.first cells) d h)
fetched_type basic.Character p cells d wanted is h = absurd (cc)
fetched_type basic.Untyped p cells d wanted is h = absurd (cc)

place_type : (s : Store) (d e : Datum) (wanted b : Basic) → ((p : Spot) → d ≡ IsSpot p → p.basic ≡ b) → if_numeric b ≡ Some wanted → fetched s d ≡ Gives e → HasType wanted e
unfolding fetched
place_type s (IsSpot p) e wanted b typed is h =
    let found = is_fetched s p e h in
    fetched_type p.basic p found.sequence.cells e wanted (ap if_numeric (typed p refl) ∙ is) found.found
place_type s (IsInt z) e wanted b typed is h = absurd (cc)
place_type s (IsLog z) e wanted b typed is h = absurd (cc)
place_type s (IsText cs) e wanted b typed is h = absurd (cc)
place_type s (fortran.IsProc x) e wanted b typed is h = absurd (cc)
place_type s (fortran.IsLabel l) e wanted b typed is h = absurd (cc)
place_type s fortran.Nothing e wanted b typed is h = absurd (cc)

-- an element has the type of its array
further_type : (test : Bool) (p q : Spot) (n : ℕ) → (if test then Gives (IsSpot (record p { first = p.first + n * p.width; extent = p.extent - n * p.width })) else Fails fortran.PastExtent) ≡ Gives (IsSpot q) → q.basic ≡ p.basic
further_type true p q n h = sym (ap (λ r. basic_in p r) h)
  where
    basic_in : Spot → Checked Datum → Basic
    basic_in p (Gives (IsSpot x)) = x.basic
    basic_in p r = p.basic
further_type false p q n h = absurd (cc)

element_type : (x : Bytes) (bs : List Bounds) (ds : List Datum) (a : Datum) (q : Spot) (b : Basic) → ((p : Spot) → a ≡ IsSpot p → p.basic ≡ b) → element_at x bs ds a ≡ Gives (IsSpot q) → q.basic ≡ b
unfolding element_at further
element_type x bs ds (IsSpot p) q b typed h =
    let before = got (elements_before x 1 bs ds) (further p) (IsSpot q) h in
    further_type (nat_le (before.value * p.width + p.width) p.extent) p q before.value before.gives ∙ typed p refl
element_type x bs ds (IsInt z) q b typed h = absurd (cc)
element_type x bs ds (IsLog z) q b typed h = absurd (cc)
element_type x bs ds (IsText cs) q b typed h = absurd (cc)
element_type x bs ds (fortran.IsProc y) q b typed h = absurd (cc)
element_type x bs ds (fortran.IsLabel l) q b typed h = absurd (cc)
element_type x bs ds fortran.Nothing q b typed h = absurd (cc)

-- ## Values

module _ (w : Writing) (n : ℕ) (frame : Frame) (temporaries : Temporaries) (s : Store) (d : Datum) (b : Basic) (places : PlacesAreTyped w frame) (typed : AreTyped w n temporaries) where
  constant_type : (e : Datum) → type_of_datum e ≡ Some b → e ≡ d → HasType b d
  unfolding type_of_datum
  constant_type (IsInt z) is same = subst (λ y. HasType y d) (some_same basic.Integer b is) (subst (HasType basic.Integer) same tt)
  constant_type (IsLog z) is same = subst (λ y. HasType y d) (some_same basic.Logical b is) (subst (HasType basic.Logical) same tt)
  constant_type (IsText cs) is same = absurd (cc)
  constant_type (IsSpot p) is same = absurd (cc)
  constant_type (fortran.IsProc x) is same = absurd (cc)
  constant_type (fortran.IsLabel l) is same = absurd (cc)
  constant_type fortran.Nothing is same = absurd (cc)

  kept_type : (k : ℕ) (found : Option Datum) → temporaries k ≡ found → w.kind n k ≡ Some b → if_kept found ≡ Gives d → HasType b d
  unfolding if_kept
  kept_type k (Some e) is kind h = typed k d b (is ∙ ap Some (gives_same e d h)) kind
    where
      gives_same : (e d : Datum) → Gives e ≡ Gives d → e ≡ d
      gives_same e d g = cc
  kept_type k None is kind h = absurd (cc)

  load_type : (p : Pure) → type_at w p ≡ Some b → given_that (meant w.facts frame temporaries s p) (fetched s) ≡ Gives d → HasType b d
  unfolding type_at meant element
  load_type (Name x) is h =
      let place = got (whole w.facts frame x) (fetched s) d h in
      place_type s place.value d b (w.facts.program.attribute x).basic (λ p same. places x p (place.is ∙ ap Gives same)) is place.gives
  load_type (ElementOf x ps) is h =
      let place = got (given_that (all_meant w.facts frame temporaries s ps) (element w.facts frame x)) (fetched s) d h in
      let subscripts = got (all_meant w.facts frame temporaries s ps) (element w.facts frame x) place.value place.is in
      let array = got (whole w.facts frame x) (element_at x (bounds_of w.facts frame x) subscripts.value) place.value subscripts.gives in
      place_type s place.value d b (w.facts.program.attribute x).basic
      (λ p same. element_type x (bounds_of w.facts frame x) subscripts.value array.value p (w.facts.program.attribute x).basic (λ q is'. places x q (array.is ∙ ap Gives is')) (array.gives ∙ ap Gives same)) is place.gives
  load_type (Constant e) is h = absurd (cc)
  load_type (Temporary k) is h = absurd (cc)
  load_type (Load p) is h = absurd (cc)
  load_type (AllOf x) is h = absurd (cc)
  load_type (FirstOf p) is h = absurd (cc)
  load_type (Substring x p from to) is h = absurd (cc)
  load_type (Concatenated ps) is h = absurd (cc)
  load_type (Prefixed op p) is h = absurd (cc)
  load_type (Operated op p q) is h = absurd (cc)
  load_type (Applied f ps) is h = absurd (cc)
  load_type (Chosen p q r) is h = absurd (cc)

  pub type_right : (p : Pure) → type_of w n p ≡ Some b → meant w.facts frame temporaries s p ≡ Gives d → HasType b d
  unfolding type_of meant
  type_right (Constant e) is h = constant_type e is (gives_same e d h)
    where
      gives_same : (e d : Datum) → Gives e ≡ Gives d → e ≡ d
      gives_same e d g = cc
  type_right (Temporary k) is h = kept_type k (temporaries k) refl is h
  type_right (Load p) is h = load_type p is h
  type_right (Prefixed op p) is h =
      let g = got (meant w.facts frame temporaries s p) (prefixed op) d h in
      subst (λ y. HasType y d) (some_same (type_behind op) b is) (prefixed_type op g.value d g.gives)
  type_right (Operated op p q) is h =
      let g = got (meant w.facts frame temporaries s p) (λ a. where_wanted (left_of op a) (given_that (meant w.facts frame temporaries s q) (operated op a))) d h in
      subst (λ y. HasType y d) (some_same (type_between op) b is) (wanted_type op g.value d (meant w.facts frame temporaries s q) g.gives)
  type_right (Applied f ps) is h =
      let g = got (all_meant w.facts frame temporaries s ps) (applied f) d h in
      applied_type f g.value d b is g.gives
  type_right (Name x) is h = absurd (cc)
  type_right (AllOf x) is h = absurd (cc)
  type_right (ElementOf x ps) is h = absurd (cc)
  type_right (FirstOf p) is h = absurd (cc)
  type_right (Substring x p from to) is h = absurd (cc)
  type_right (Concatenated ps) is h = absurd (cc)
  type_right (Chosen p q r) is h = absurd (cc)

pub types_are_right : TypesAreRight
types_are_right w n frame temporaries s p d b places typed is h = type_right w n frame temporaries s d b places typed p is h
