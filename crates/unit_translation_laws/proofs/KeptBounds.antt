-- What a procedure keeps of its dummy arrays: each bound of an array with adjustable bounds is listed, once, and nothing else is.
use Rattle.std.specs.List.{list_all, flat_map}
use Rattle.std.specs.Prelude.{◌≡◌, ◌≢◌, ℕ, zero, suc, ◌+◌, ◌<◌, ◌≤◌, Bool, true, false, List, [], ◌∷◌, length, Option, Some, None, is_some, option_and_then, slice_get, if◌then◌else◌}
use Rattle.std.proofs.Common.{refl, sym, ap, ◌∙◌, subst, arith}
use Rattle.std.proofs.lemmas.Bool.{and_parts}
use Rattle.std.proofs.lemmas.List.{length-append}
use Rattle.unit_translation.specs.f_tree.Values.{Bytes}
use Rattle.unit_translation.specs.f_tree.Terms.{Term}
use Rattle.unit_translation.specs.f_tree.Facts.{Dimension, Attribute, ProgramUnit}
use Rattle.unit_translation.specs.f_tree.Setting.{IsIn, first_in, later_in}
use Rattle.unit_translation.specs.l_core.Pures.{Pure}
use Rattle.unit_translation.specs.faithful.Signatures.{named_formals}
use Rattle.unit_translation.specs.procedure_emission.kept_bounds.KeptBounds.{bound_pure, size_pure, is_adjustable, upper_is_pure, dimension_is_pure}
use Rattle.unit_translation.specs.unit_file.UnitFile.{LowerOf, SizeOf, KeptBound}
use Rattle.unit_translation.specs.UnitBounds.{lower_kept, size_kept, dimension_kept, dimensions_kept, array_kept, formals_in, bounds_kept}
use Rattle.main_translation_laws.proofs.linking_laws.Places.{some_same, within}
use Rattle.main_translation_laws.proofs.Lists.{AreApart, none_apart, one_apart, InEither, in_one, in_other, in_either, apart_append}
use Rattle.main_translation_laws.proofs.FlowLaws.{in_front, in_back}
use Rattle.unit_translation_laws.proofs.FlatLists.{in_flat, of_flat}

-- ## A dimension

abbrev pub lower_bound : Bytes → ℕ → Pure → KeptBound
lower_bound x k p = record { dummy = x; place = k; kind = LowerOf; value = p }

abbrev pub size_bound : Bytes → ℕ → Pure → KeptBound
size_bound x k p = record { dummy = x; place = k; kind = SizeOf; value = p }

-- a bound of a dimension, by its value
pub data IsBoundOf (x : Bytes) (k : ℕ) (d : Dimension) (one : KeptBound) : Type 0 where
  its_lower : (p : Pure) → bound_pure d.lower ≡ Some p → one ≡ lower_bound x k p → IsBoundOf x k d one
  its_size : (t : Term) (lower upper : Pure) → d.upper ≡ Some t → bound_pure d.lower ≡ Some lower → bound_pure t ≡ Some upper → one ≡ size_bound x k (size_pure lower upper) → IsBoundOf x k d one

pub dummy_is : (x : Bytes) (k : ℕ) (d : Dimension) (one : KeptBound) → IsBoundOf x k d one → one.dummy ≡ x
dummy_is x k d one (its_lower p lower is) = ap (λ (b : KeptBound). b.dummy) is
dummy_is x k d one (its_size t lower upper has below above is) = ap (λ (b : KeptBound). b.dummy) is

pub place_is : (x : Bytes) (k : ℕ) (d : Dimension) (one : KeptBound) → IsBoundOf x k d one → one.place ≡ k
place_is x k d one (its_lower p lower is) = ap (λ (b : KeptBound). b.place) is
place_is x k d one (its_size t lower upper has below above is) = ap (λ (b : KeptBound). b.place) is

same_term : (d : Dimension) (t s : Term) → d.upper ≡ Some t → d.upper ≡ Some s → t ≡ s
same_term d t s one other = some_same t s (sym one ∙ other)

same_pure : (found : Option Pure) (p q : Pure) → found ≡ Some p → found ≡ Some q → p ≡ q
same_pure found p q one other = some_same p q (sym one ∙ other)

no_size : LowerOf ≢ SizeOf
no_size same = cc

-- a bound of a dimension is told by its kind
pub same_bound : (x : Bytes) (k : ℕ) (d : Dimension) (one other : KeptBound) → IsBoundOf x k d one → IsBoundOf x k d other → one.kind ≡ other.kind → one ≡ other
same_bound x k d one other (its_lower p lower is) (its_lower q lower' is') same = is ∙ ap (lower_bound x k) (same_pure (bound_pure d.lower) p q lower lower') ∙ sym is'
same_bound x k d one other (its_lower p lower is) (its_size t below upper has at above is') same = absurd (no_size (sym (ap (λ (b : KeptBound). b.kind) is) ∙ same ∙ ap (λ (b : KeptBound). b.kind) is'))
same_bound x k d one other (its_size t below upper has at above is) (its_lower q lower' is') same = absurd (no_size (sym (ap (λ (b : KeptBound). b.kind) is') ∙ sym same ∙ ap (λ (b : KeptBound). b.kind) is))
same_bound x k d one other (its_size t below upper has at above is) (its_size s below' upper' has' at' above' is') same =
    let low = same_pure (bound_pure d.lower) below below' at at' in
    let high = same_pure (bound_pure t) upper upper' above (ap bound_pure (same_term d t s has has') ∙ above') in
    is ∙ (λ i. size_bound x k (size_pure (low i) (high i))) ∙ sym is'

record IsLowerIn (x : Bytes) (k : ℕ) (found : Option Pure) (one : KeptBound) : Type 0 where
  value : Pure
  gives : found ≡ Some value
  is : one ≡ lower_bound x k value

in_lower : (x : Bytes) (k : ℕ) (found : Option Pure) (one : KeptBound) → IsIn one (lower_kept x k found) → IsLowerIn x k found one
unfolding lower_kept
in_lower x k None one o = elim o [ ]
in_lower x k (Some p) _ first_in = record { value = p; gives = refl; is = refl }
in_lower x k (Some p) one (later_in o) = elim o [ ]

record IsSizeIn (x : Bytes) (k : ℕ) (lower upper : Option Pure) (one : KeptBound) : Type 0 where
  below : Pure
  above : Pure
  lower_is : lower ≡ Some below
  upper_is : upper ≡ Some above
  is : one ≡ size_bound x k (size_pure below above)

in_size : (x : Bytes) (k : ℕ) (lower upper : Option Pure) (one : KeptBound) → IsIn one (size_kept x k lower upper) → IsSizeIn x k lower upper one
unfolding size_kept
in_size x k (Some p) (Some q) _ first_in = record { below = p; above = q; lower_is = refl; upper_is = refl; is = refl }
in_size x k (Some p) (Some q) one (later_in o) = elim o [ ]
in_size x k (Some p) None one o = elim o [ ]
in_size x k None upper one o = elim o [ ]

written_upper : (upper : Option Term) (q : Pure) → option_and_then bound_pure upper ≡ Some q → (t : Term) × (upper ≡ Some t) × (bound_pure t ≡ Some q)
written_upper (Some t) q is = (t, refl, is)
written_upper None q is = absurd (cc)

in_dimension : (x : Bytes) (k : ℕ) (d : Dimension) (one : KeptBound) → IsIn one (dimension_kept x k d) → IsBoundOf x k d one
unfolding dimension_kept
in_dimension x k d one o = by (in_either one (lower_kept x k (bound_pure d.lower)) (size_kept x k (bound_pure d.lower) (option_and_then bound_pure d.upper)) o)
  where
    by : InEither one (lower_kept x k (bound_pure d.lower)) (size_kept x k (bound_pure d.lower) (option_and_then bound_pure d.upper)) → IsBoundOf x k d one
    by (in_one p) = let found = in_lower x k (bound_pure d.lower) one p in its_lower found.value found.gives found.is
    by (in_other p) =
        let found = in_size x k (bound_pure d.lower) (option_and_then bound_pure d.upper) one p in
        let upper = written_upper d.upper found.above found.upper_is in its_size upper.0 found.below found.above upper.1 found.lower_is upper.2 found.is

-- ## Dimensions

record IsOfDimension (x : Bytes) (k : ℕ) (ds : List Dimension) (one : KeptBound) : Type 0 where
  index : ℕ
  at : ℕ
  there : at ≡ k + index
  dimension : Dimension
  stands : slice_get ds index ≡ Some dimension
  bound : IsBoundOf x at dimension one

in_dimensions : (x : Bytes) (k : ℕ) (ds : List Dimension) (one : KeptBound) → IsIn one (dimensions_kept x k ds) → IsOfDimension x k ds one
unfolding dimensions_kept
in_dimensions x k [] one o = elim o [ ]
in_dimensions x k (d ∷ ds) one o = by (in_either one (dimension_kept x k d) (dimensions_kept x (suc k) ds) o) (in_dimensions x (suc k) ds one)
  where
    by : InEither one (dimension_kept x k d) (dimensions_kept x (suc k) ds) → (IsIn one (dimensions_kept x (suc k) ds) → IsOfDimension x (suc k) ds one) → IsOfDimension x k (d ∷ ds) one
    by (in_one p) later = record { index = 0; at = k; there = omega arith; dimension = d; stands = refl; bound = in_dimension x k d one p }
    by (in_other p) later =
        let rest = later p in
        let there = rest.there in record { index = suc rest.index; at = rest.at; there = omega (arith, there); dimension = rest.dimension; stands = rest.stands; bound = rest.bound }

lower_among : (x : Bytes) (k : ℕ) (found : Option Pure) (p : Pure) → found ≡ Some p → IsIn (lower_bound x k p) (lower_kept x k found)
unfolding lower_kept
lower_among x k found p is = subst (λ o. IsIn (lower_bound x k p) (lower_kept x k o)) (sym is) first_in

size_among : (x : Bytes) (k : ℕ) (lower upper : Option Pure) (p q : Pure) → lower ≡ Some p → upper ≡ Some q → IsIn (size_bound x k (size_pure p q)) (size_kept x k lower upper)
unfolding size_kept
size_among x k lower upper p q is above =
    subst (λ o. IsIn (size_bound x k (size_pure p q)) (size_kept x k o upper)) (sym is) (subst (λ o. IsIn (size_bound x k (size_pure p q)) (size_kept x k (Some p) o)) (sym above) first_in)

in_its_dimension : (x : Bytes) (k : ℕ) (d : Dimension) (one : KeptBound) → IsBoundOf x k d one → IsIn one (dimension_kept x k d)
unfolding dimension_kept
in_its_dimension x k d one (its_lower p lower is) =
    subst (λ b. IsIn b (dimension_kept x k d)) (sym is) (in_front (lower_bound x k p) (lower_kept x k (bound_pure d.lower)) (size_kept x k (bound_pure d.lower) (option_and_then bound_pure d.upper)) (lower_among x k (bound_pure d.lower) p lower))
in_its_dimension x k d one (its_size t lower upper has below above is) =
    subst (λ b. IsIn b (dimension_kept x k d)) (sym is)
    (in_back (size_bound x k (size_pure lower upper)) (lower_kept x k (bound_pure d.lower)) (size_kept x k (bound_pure d.lower) (option_and_then bound_pure d.upper))
    (size_among x k (bound_pure d.lower) (option_and_then bound_pure d.upper) lower upper below (ap (option_and_then bound_pure) has ∙ above)))

in_its_dimensions : (x : Bytes) (k : ℕ) (ds : List Dimension) (i at : ℕ) (d : Dimension) (one : KeptBound) → at ≡ k + i → slice_get ds i ≡ Some d → IsBoundOf x at d one → IsIn one (dimensions_kept x k ds)
unfolding dimensions_kept
in_its_dimensions x k [] i at d one there stands bound = absurd (cc)
in_its_dimensions x k (first ∷ ds) zero at d one there stands bound =
    let here : at ≡ k = omega (arith, there) in
    in_front one (dimension_kept x k first) (dimensions_kept x (suc k) ds)
    (in_its_dimension x k first one (subst (λ n. IsBoundOf x n first one) here (subst (λ e. IsBoundOf x at e one) (sym (some_same first d stands)) bound)))
in_its_dimensions x k (first ∷ ds) (suc i) at d one there stands bound =
    in_back one (dimension_kept x k first) (dimensions_kept x (suc k) ds) (in_its_dimensions x (suc k) ds i at d one (omega (arith, there)) stands bound)

-- ## All of a unit

adjustable_by : (x : Bytes) (a : Attribute) (one : KeptBound) → IsIn one (array_kept x a) → (is_adjustable a ≡ true) × IsIn one (dimensions_kept x 0 a.dimensions)
unfolding array_kept
adjustable_by x a one o = by (is_adjustable a) refl o
  where
    by : (t : Bool) → is_adjustable a ≡ t → IsIn one (if t then dimensions_kept x 0 a.dimensions else []) → (is_adjustable a ≡ true) × IsIn one (dimensions_kept x 0 a.dimensions)
    by true is p = (is, p)
    by false is p = elim p [ ]

-- what is kept is a bound of a dummy array
pub record IsKeptIn (unit : ProgramUnit) (one : KeptBound) : Type 0 where
  pub array : Bytes
  pub among : IsIn array (named_formals (formals_in unit.entries))
  pub adjustable : is_adjustable (unit.attribute array) ≡ true
  pub index : ℕ
  pub dimension : Dimension
  pub stands : slice_get (unit.attribute array).dimensions index ≡ Some dimension
  pub bound : IsBoundOf array index dimension one

pub kept_in : (unit : ProgramUnit) (one : KeptBound) → IsIn one (bounds_kept unit) → IsKeptIn unit one
unfolding bounds_kept
kept_in unit one o =
    let found = of_flat (λ x. array_kept x (unit.attribute x)) (named_formals (formals_in unit.entries)) one o in
    let x = found.whole in
    let part = adjustable_by x (unit.attribute x) one found.part in
    let of = in_dimensions x 0 (unit.attribute x).dimensions one part.1 in
    let there = of.there in
    let same : of.at ≡ of.index = omega (arith, there) in
    record { array = x; among = found.among; adjustable = part.0; index = of.index; dimension = of.dimension; stands = of.stands; bound = subst (λ n. IsBoundOf x n of.dimension one) same of.bound }

array_among : (x : Bytes) (a : Attribute) (one : KeptBound) → is_adjustable a ≡ true → IsIn one (dimensions_kept x 0 a.dimensions) → IsIn one (array_kept x a)
unfolding array_kept
array_among x a one adjustable o = subst (λ t. IsIn one (if t then dimensions_kept x 0 a.dimensions else [])) (sym adjustable) o

-- each bound of such an array is kept
pub kept_there : (unit : ProgramUnit) (x : Bytes) (i : ℕ) (d : Dimension) (one : KeptBound) → IsIn x (named_formals (formals_in unit.entries)) → is_adjustable (unit.attribute x) ≡ true → slice_get (unit.attribute x).dimensions i ≡ Some d
    → IsBoundOf x i d one → IsIn one (bounds_kept unit)
unfolding bounds_kept
kept_there unit x i d one among adjustable stands bound =
    in_flat (λ y. array_kept y (unit.attribute y)) x (named_formals (formals_in unit.entries)) one among
    (array_among x (unit.attribute x) one adjustable (in_its_dimensions x 0 (unit.attribute x).dimensions i i d one (omega arith) stands bound))

-- no two are of one dummy, place and kind
pub same_kept : (unit : ProgramUnit) (one other : KeptBound) → IsIn one (bounds_kept unit) → IsIn other (bounds_kept unit) → one.dummy ≡ other.dummy → one.place ≡ other.place → one.kind ≡ other.kind → one ≡ other
same_kept unit one other o p dummy place kind =
    let a = kept_in unit one o in
    let b = kept_in unit other p in
    let array : b.array ≡ a.array = sym (dummy_is b.array b.index b.dimension other b.bound) ∙ sym dummy ∙ dummy_is a.array a.index a.dimension one a.bound in
    let index : b.index ≡ a.index = sym (place_is b.array b.index b.dimension other b.bound) ∙ sym place ∙ place_is a.array a.index a.dimension one a.bound in
    let dimension : b.dimension ≡ a.dimension = some_same b.dimension a.dimension (sym b.stands ∙ (λ i. slice_get (unit.attribute (array i)).dimensions (index i)) ∙ a.stands) in
    same_bound a.array a.index a.dimension one other a.bound
    (subst (λ x. IsBoundOf x a.index a.dimension other) array (subst (λ n. IsBoundOf b.array n a.dimension other) index (subst (λ d. IsBoundOf b.array b.index d other) dimension b.bound))) kind

-- ## Each once

lower_apart : (x : Bytes) (k : ℕ) (found : Option Pure) → AreApart (lower_kept x k found)
unfolding lower_kept
lower_apart x k None = none_apart
lower_apart x k (Some p) = one_apart (λ y o. elim o [ ]) none_apart

size_apart : (x : Bytes) (k : ℕ) (lower upper : Option Pure) → AreApart (size_kept x k lower upper)
unfolding size_kept
size_apart x k (Some p) (Some q) = one_apart (λ y o. elim o [ ]) none_apart
size_apart x k (Some p) None = none_apart
size_apart x k None upper = none_apart

dimension_apart : (x : Bytes) (k : ℕ) (d : Dimension) → AreApart (dimension_kept x k d)
unfolding dimension_kept
dimension_apart x k d =
    apart_append (lower_kept x k (bound_pure d.lower)) (size_kept x k (bound_pure d.lower) (option_and_then bound_pure d.upper)) (lower_apart x k (bound_pure d.lower)) (size_apart x k (bound_pure d.lower) (option_and_then bound_pure d.upper))
    (λ a b p q same.
    let one = in_lower x k (bound_pure d.lower) a p in
    let other = in_size x k (bound_pure d.lower) (option_and_then bound_pure d.upper) b q in
    no_size (sym (ap (λ (c : KeptBound). c.kind) one.is) ∙ ap (λ (c : KeptBound). c.kind) same ∙ ap (λ (c : KeptBound). c.kind) other.is))

dimensions_apart : (x : Bytes) (k : ℕ) (ds : List Dimension) → AreApart (dimensions_kept x k ds)
unfolding dimensions_kept
dimensions_apart x k [] = none_apart
dimensions_apart x k (d ∷ ds) =
    apart_append (dimension_kept x k d) (dimensions_kept x (suc k) ds) (dimension_apart x k d) (dimensions_apart x (suc k) ds)
    (λ a b p q same.
    let first = place_is x k d a (in_dimension x k d a p) in
    let of = in_dimensions x (suc k) ds b q in
    let there = of.there in
    let second = place_is x of.at of.dimension b of.bound in
    let here : k ≡ of.at = sym first ∙ ap (λ (c : KeptBound). c.place) same ∙ second in omega (arith, there, here))

array_apart : (x : Bytes) (a : Attribute) → AreApart (array_kept x a)
unfolding array_kept
array_apart x a = by (is_adjustable a)
  where
    by : (t : Bool) → AreApart (if t then dimensions_kept x 0 a.dimensions else [])
    by true = dimensions_apart x 0 a.dimensions
    by false = none_apart

of_array : (x : Bytes) (a : Attribute) (one : KeptBound) → IsIn one (array_kept x a) → one.dummy ≡ x
of_array x a one o = let of = in_dimensions x 0 a.dimensions one (adjustable_by x a one o).1 in dummy_is x of.at of.dimension one of.bound

arrays_apart : (unit : ProgramUnit) (xs : List Bytes) → AreApart xs → AreApart (flat_map (λ x. array_kept x (unit.attribute x)) xs)
arrays_apart unit [] none_apart = none_apart
arrays_apart unit (x ∷ xs) (one_apart none later) =
    apart_append (array_kept x (unit.attribute x)) (flat_map (λ y. array_kept y (unit.attribute y)) xs) (array_apart x (unit.attribute x)) (arrays_apart unit xs later)
    (λ a b p q same.
    let found = of_flat (λ y. array_kept y (unit.attribute y)) xs b q in
    none found.whole found.among (sym (of_array x (unit.attribute x) a p) ∙ ap (λ (c : KeptBound). c.dummy) same ∙ of_array found.whole (unit.attribute found.whole) b found.part))

pub bounds_apart : (unit : ProgramUnit) → AreApart (named_formals (formals_in unit.entries)) → AreApart (bounds_kept unit)
unfolding bounds_kept
bounds_apart unit distinct = arrays_apart unit (named_formals (formals_in unit.entries)) distinct

-- ## How many they are

one_there : (x : Bytes) (k : ℕ) (found : Option Pure) → is_some found ≡ true → 1 ≤ length (lower_kept x k found)
unfolding lower_kept
one_there x k (Some p) is = omega arith
one_there x k None is = absurd (cc)

dimension_many : (x : Bytes) (k : ℕ) (d : Dimension) → dimension_is_pure d ≡ true → 1 ≤ length (dimension_kept x k d)
unfolding dimension_kept dimension_is_pure
dimension_many x k d pure =
    let one = one_there x k (bound_pure d.lower) (and_parts (is_some (bound_pure d.lower)) (upper_is_pure d.upper) pure).0 in
    let sum = length-append (lower_kept x k (bound_pure d.lower)) (size_kept x k (bound_pure d.lower) (option_and_then bound_pure d.upper)) in omega (arith, one, sum)

dimensions_many : (x : Bytes) (k : ℕ) (ds : List Dimension) → list_all dimension_is_pure ds ≡ true → length ds ≤ length (dimensions_kept x k ds)
unfolding dimensions_kept
dimensions_many x k [] pure = omega arith
dimensions_many x k (d ∷ ds) pure =
    let parts = and_parts (dimension_is_pure d) (list_all dimension_is_pure ds) pure in
    let one = dimension_many x k d parts.0 in
    let rest = dimensions_many x (suc k) ds parts.1 in
    let sum = length-append (dimension_kept x k d) (dimensions_kept x (suc k) ds) in omega (arith, one, rest, sum)

array_many : (x : Bytes) (a : Attribute) → is_adjustable a ≡ true → list_all dimension_is_pure a.dimensions ≡ true → length a.dimensions ≤ length (array_kept x a)
unfolding array_kept
array_many x a adjustable pure = subst (λ t. length a.dimensions ≤ length (if t then dimensions_kept x 0 a.dimensions else [])) (sym adjustable) (dimensions_many x 0 a.dimensions pure)

part_many : {A B : Type 0} (f : A → List B) (x : A) (xs : List A) → IsIn x xs → length (f x) ≤ length (flat_map f xs)
part_many f x _ (first_in {as' = xs}) = let sum = length-append (f x) (flat_map f xs) in omega (arith, sum)
part_many f x _ (later_in {b = y} {as' = xs} o) = let rest = part_many f x xs o in let sum = length-append (f y) (flat_map f xs) in omega (arith, rest, sum)

-- the number of a dimension is below that of the bounds, where each lower bound has a value
pub place_below : (unit : ProgramUnit) (one : KeptBound) → ((x : Bytes) → IsIn x (named_formals (formals_in unit.entries)) → is_adjustable (unit.attribute x) ≡ true → list_all dimension_is_pure (unit.attribute x).dimensions ≡ true)
    → IsIn one (bounds_kept unit) → one.place < length (bounds_kept unit)
unfolding bounds_kept
place_below unit one pure o =
    let a = kept_in unit one o in
    let place = place_is a.array a.index a.dimension one a.bound in
    let below = within (unit.attribute a.array).dimensions a.index a.dimension a.stands in
    let many = array_many a.array (unit.attribute a.array) a.adjustable (pure a.array a.among a.adjustable) in
    let all = part_many (λ x. array_kept x (unit.attribute x)) a.array (named_formals (formals_in unit.entries)) a.among in omega (arith, place, below, many, all)
