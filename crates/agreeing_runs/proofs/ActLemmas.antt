-- What a procedure does at its beginning past its arguments comes to other acts than a disagreement: the dimensions of its arrays (5.1, 15.9.3.3).
use Rattle.std.specs.Prelude.{ℕ, nat_le, ℤ, pos, negsuc, int_lt, int_le, ◌+ℤ◌, ◌-ℤ◌, Bool, true, false, List, [], ◌∷◌, Option, Some, None, slice_get, IsTrue, if◌then◌else◌}
use Rattle.std.specs.Ordering.{int_eq}
use Rattle.std.proofs.Common.{refl}
use Rattle.fortran_totality.specs.f_tree.declared.names.Basic.{Basic}
use Rattle.fortran_totality.specs.f_tree.declared.names.Basic.TheVariants.{Integer, Logical, Character, Untyped}
use Rattle.fortran_totality.specs.f_tree.declared.names.Class.{Class}
use Rattle.fortran_totality.specs.f_tree.declared.names.Class.TheVariants as class
use Rattle.fortran_totality.specs.f_tree.Values.{Bytes, Spot, Datum, IsInt, IsLog, IsText, IsSpot, Act, Overflow, ZeroDivide, PastExtent, BadDimension, Disagreement, Checked, Gives, Fails, given_that, in_range, checked}
use Rattle.fortran_totality.specs.f_tree.Terms.{Negate, Complement, Prefix, Operator, Add, Subtract, Multiply, Divide, IsLess, IsLessOrEqual, IsEqual, IsNotEqual, IsGreater, IsGreaterOrEqual, Both, Either, Same, Different, Power, Term, Val, Fetch, Before as Prefixed, Between, Intrinsically, Terms, NoMore, More}
use Rattle.fortran_totality.specs.f_tree.Store.{Store, Sequence, Cell, Whole, Number, Truth, Chr, with_first, characters, as_text, value_of_type, fetch_as, fetch_from, fetch_in, fetch, whole_at}
use Rattle.fortran_totality.specs.f_tree.Facts.{Dimension, Bounds, Attribute, Home, Facts, Frame}
use Rattle.fortran_totality.specs.f_tree.Valuing.{Red, Valued, Bad, Asks, then_by, at_once, prefixed, divided, on_integers, on_logicals, on_texts, operated, Left, Decided, Wants, Wrong, left_of, right_after, inverse_of, raised, applied, stored_at, if_bound, if_there, named_as, whole, fetched, reduce, reduce_all}
use Rattle.fortran_totality.specs.f_tree.Association.{integer_of, sized, dimension_by, dimensions_by, all_dimensions_by}
use Rattle.fortran_totality.specs.f_tree.WellFormed as formed
use Rattle.fortran_totality.specs.f_tree.WellFormed.{IsOfVariables, IsUpper, AreDimensions}

-- ACTS of another kind
unfoldable pub is_other : Act → Bool
is_other Disagreement = false
is_other _ = true

unfoldable pub Other : {A : Type 0} → Checked A → Type 0
Other (Gives a) = Unit {0}
Other (Fails act) = IsTrue (is_other act)

other_if : {A : Type 0} (b : Bool) (x y : Checked A) → Other x → Other y → Other (if b then x else y)
other_if true x y one other = one
other_if false x y one other = other

other_given : {A B : Type 0} (r : Checked A) (go : A → Checked B) → Other r → ((a : A) → Other (go a)) → Other (given_that r go)
unfolding Other given_that
other_given (Gives a) go one other = other a
other_given (Fails act) go one other = one

-- NUMBERS
checked_other : (z : ℤ) → Other (checked z)
unfolding checked Other is_other
checked_other z = other_if (in_range z) (Gives (IsInt z)) (Fails Overflow) tt refl

divided_other : (a b : ℤ) → Other (divided a b)
unfolding divided Other is_other
divided_other a b = other_if (int_eq b (pos 0)) (Fails ZeroDivide) (checked _) refl (checked_other _)

integers_other : (op : Operator) (a b : ℤ) → Other (on_integers op a b)
unfolding on_integers Other is_other
integers_other Add a b = checked_other _
integers_other Subtract a b = checked_other _
integers_other Multiply a b = checked_other _
integers_other Divide a b = divided_other a b
integers_other IsLess a b = tt
integers_other IsLessOrEqual a b = tt
integers_other IsEqual a b = tt
integers_other IsNotEqual a b = tt
integers_other IsGreater a b = tt
integers_other IsGreaterOrEqual a b = tt
integers_other _ a b = refl

logicals_other : (op : Operator) (a b : Bool) → Other (on_logicals op a b)
unfolding on_logicals Other is_other
logicals_other Both a b = tt
logicals_other Either a b = tt
logicals_other Same a b = tt
logicals_other Different a b = tt
logicals_other _ a b = refl

texts_other : (op : Operator) (a b : Bytes) → Other (on_texts op a b)
unfolding on_texts Other is_other
texts_other IsLess a b = tt
texts_other IsLessOrEqual a b = tt
texts_other IsEqual a b = tt
texts_other IsNotEqual a b = tt
texts_other IsGreater a b = tt
texts_other IsGreaterOrEqual a b = tt
texts_other _ a b = refl

operated_other : (op : Operator) (d e : Datum) → Other (operated op d e)
unfolding operated Other is_other
operated_other op (IsInt a) (IsInt b) = integers_other op a b
operated_other op (IsLog a) (IsLog b) = logicals_other op a b
operated_other op (IsText a) (IsText b) = texts_other op a b
operated_other op _ _ = refl

prefixed_other : (op : Prefix) (d : Datum) → Other (prefixed op d)
unfolding prefixed Other is_other
prefixed_other Negate (IsInt z) = checked_other _
prefixed_other Complement (IsLog b) = tt
prefixed_other _ _ = refl

raised_other : (a b : ℤ) → Other (raised a b)
unfolding raised inverse_of
raised_other a (pos n) = checked_other _
raised_other a (negsuc n) = divided_other (pos 1) _

power_other : (ds : List Datum) → Other (applied Power ds)
unfolding applied Other is_other
power_other (IsInt a ∷ IsInt b ∷ []) = raised_other a b
power_other _ = refl

-- NAMES AND STORAGE
first_other : (c : ℕ) (r : Checked Bytes) → Other r → Other (with_first c r)
unfolding with_first Other
first_other c (Gives cs) other = tt
first_other c (Fails act) other = other

characters_other : (cells : List Cell) → Other (characters cells)
unfolding characters Other is_other
characters_other [] = tt
characters_other (Chr c ∷ cells) = first_other c (characters cells) (characters_other cells)
characters_other (_ ∷ cells) = refl

text_other : (r : Checked Bytes) → Other r → Other (as_text r)
unfolding as_text Other
text_other (Gives cs) other = tt
text_other (Fails act) other = other

type_other : (basic : Basic) (o : Option Whole) → Other (value_of_type basic o)
unfolding value_of_type Other is_other
type_other Integer (Some (Number z)) = tt
type_other Logical (Some (Truth b)) = tt
type_other _ _ = refl

fetch_as_other : (basic : Basic) (p : Spot) (cells : List Cell) → Other (fetch_as basic p cells)
unfolding fetch_as
fetch_as_other Character p cells = text_other (characters _) (characters_other _)
fetch_as_other Integer p cells = type_other Integer (whole_at p.first cells)
fetch_as_other Logical p cells = type_other Logical (whole_at p.first cells)
fetch_as_other Untyped p cells = type_other Untyped (whole_at p.first cells)

fetch_in_other : (p : Spot) (o : Option Sequence) → Other (fetch_in p o)
unfolding fetch_in fetch_from Other is_other
fetch_in_other p None = refl
fetch_in_other p (Some q) = other_if (nat_le p.width p.extent) (fetch_as p.basic p q.cells) (Fails PastExtent) (fetch_as_other p.basic p q.cells) refl

fetched_other : (s : Store) (d : Datum) → Other (fetched s d)
unfolding fetched fetch Other is_other
fetched_other s (IsSpot p) = fetch_in_other p (slice_get s p.sequence)
fetched_other s _ = refl

stored_other : (a : Attribute) (o : Option ℕ) (h : Option Home) → Other (stored_at a o h)
unfolding stored_at Other is_other
stored_other a (Some width) (Some h) = tt
stored_other a _ _ = refl

bound_other : (o : Option Datum) → Other (if_bound o)
unfolding if_bound Other is_other
bound_other None = refl
bound_other (Some d) = tt

there_other : (basic : Basic) (o : Option Spot) → Other (if_there basic o)
unfolding if_there Other is_other
there_other basic None = refl
there_other basic (Some p) = tt

named_other : (c : Facts) (f : Frame) (x : Bytes) (k : Class) (a : Attribute) → Other (named_as c f x (record a { class = k }))
unfolding named_as Other is_other
named_other c f x class.Stored a = stored_other (record a { class = class.Stored }) a.width (c.home x)
named_other c f x class.Dummy a = bound_other (f.bound x)
named_other c f x class.DummyProcedure a = bound_other (f.bound x)
named_other c f x class.Result a = there_other a.basic f.result
named_other c f x class.Procedure a = tt
named_other c f x class.Intrinsic a = tt
named_other c f x class.Constant a = refl
named_other c f x class.StatementFunction a = refl
named_other c f x class.Unit a = refl

whole_other : (c : Facts) (f : Frame) (x : Bytes) → Other (whole c f x)
unfolding whole
whole_other c f x = named_other c f x (c.program.attribute x).class (c.program.attribute x)

-- EXPRESSIONS of dimensions
unfoldable OtherRed : {A T : Type 0} → Red A T → Type 0
OtherRed (Valued a) = Unit {0}
OtherRed (Bad act) = IsTrue (is_other act)
OtherRed (Asks callee ds rest) = Unit {0}

then_other : {A B T U : Type 0} (r : Red A T) (back : T → U) (go : A → Red B U) → OtherRed r → ((a : A) → OtherRed (go a)) → OtherRed (then_by r back go)
unfolding OtherRed then_by
then_other (Valued a) back go one next = next a
then_other (Bad act) back go one next = one
then_other (Asks callee ds rest) back go one next = tt

abbrev AsRed : (A T : Type 0) → Checked A → Red A T
AsRed A T r = at_once r

at_once_other : (A T : Type 0) (r : Checked A) → Other r → OtherRed (AsRed A T r)
unfolding OtherRed at_once Other
at_once_other A T (Gives a) other = tt
at_once_other A T (Fails act) other = other

right_other : {T : Type 0} (left : Left) (right : Red Datum T) → OtherRed right → OtherRed (right_after left right)
unfolding OtherRed right_after is_other
right_other (Decided d) right other = tt
right_other Wants right other = other
right_other Wrong right other = refl

abbrev NoneLeft : Red (List Datum) Terms
NoneLeft = Valued []

valued_other : (e : Datum) → OtherRed (then_by NoneLeft (More (Val e)) (λ ds. Valued (e ∷ ds)))
unfolding OtherRed then_by
valued_other e = tt

module _ (c : Facts) (f : Frame) (s : Store) where
  variables_other : (t : Term) → IsOfVariables c t → OtherRed (reduce c f s [] t)
  unfolding reduce reduce_all OtherRed
  variables_other _ (formed.a_constant z) = tt
  variables_other _ (formed.a_variable x is) =
      then_other (at_once (whole c f x)) Fetch (λ d. at_once (fetched s d)) (at_once_other Datum Term (whole c f x) (whole_other c f x))
      (λ d. at_once_other Datum Term (fetched s d) (fetched_other s d))
  variables_other _ (formed.negated t is) =
      then_other (reduce c f s [] t) (Prefixed Negate) (λ d. at_once (prefixed Negate d)) (variables_other t is)
      (λ d. at_once_other Datum Term (prefixed Negate d) (prefixed_other Negate d))
  variables_other _ (formed.combined op t u operates one other) =
      then_other (reduce c f s [] t) (λ r. Between op r u) (λ a. right_after (left_of op a) (then_by (reduce c f s [] u) (Between op (Val a)) (λ b. at_once (operated op a b))))
      (variables_other t one)
      (λ a. right_other (left_of op a) (then_by (reduce c f s [] u) (Between op (Val a)) (λ b. at_once (operated op a b)))
      (then_other (reduce c f s [] u) (Between op (Val a)) (λ b. at_once (operated op a b)) (variables_other u other)
      (λ b. at_once_other Datum Term (operated op a b) (operated_other op a b))))
  variables_other _ (formed.raised t u one other) =
      then_other (reduce_all c f s [] (More t (More u NoMore))) (Intrinsically Power) (λ ds. at_once (applied Power ds))
      (then_other (reduce c f s [] t) (λ r. More r (More u NoMore)) (λ d. then_by (reduce_all c f s [] (More u NoMore)) (More (Val d)) (λ ds. Valued (d ∷ ds)))
      (variables_other t one)
      (λ d. then_other (reduce_all c f s [] (More u NoMore)) (More (Val d)) (λ ds. Valued (d ∷ ds))
      (then_other (reduce c f s [] u) (λ r. More r NoMore) (λ e. then_by (Valued []) (More (Val e)) (λ ds. Valued (e ∷ ds))) (variables_other u other)
      (λ e. valued_other e)) (λ ds. tt)))
      (λ ds. at_once_other Datum Term (applied Power ds) (power_other ds))

  integer_other : (r : Red Datum Term) → OtherRed r → Other (integer_of r)
  unfolding integer_of OtherRed Other is_other
  integer_other (Valued (IsInt z)) other = tt
  integer_other (Bad act) other = other
  integer_other _ other = refl

  sized_other : (lower upper : ℤ) → Other (sized lower upper)
  unfolding sized Other is_other
  sized_other lower upper =
      other_if (int_lt upper lower) (Fails BadDimension) _ refl
      (other_if (int_le ((upper -ℤ lower) +ℤ pos 1) (pos 2147483647)) (Gives (record { lower = lower; upper = Some upper })) (Fails BadDimension) tt refl)

  upper_other : (lower : ℤ) (o : Option Term) → IsUpper c o → Other (elim o [
    | None ↦ Gives (let b : Bounds = record { lower = lower; upper = None } in b)
    | Some t ↦ given_that (integer_of (reduce c f s [] t)) (sized lower)
  ])
  unfolding Other
  upper_other lower _ formed.assumed = tt
  upper_other lower _ (formed.written t is) =
      other_given (integer_of (reduce c f s [] t)) (sized lower) (integer_other (reduce c f s [] t) (variables_other t is)) (λ upper. sized_other lower upper)

  dimension_other : (d : Dimension) → IsOfVariables c d.lower → IsUpper c d.upper → Other (dimension_by c f s d)
  unfolding dimension_by
  dimension_other d one other =
      other_given (integer_of (reduce c f s [] d.lower)) _ (integer_other (reduce c f s [] d.lower) (variables_other d.lower one)) (λ lower. upper_other lower d.upper other)

  dimensions_other : (ds : List Dimension) → AreDimensions c ds → Other (dimensions_by c f s ds)
  unfolding dimensions_by Other
  dimensions_other [] are = tt
  dimensions_other (d ∷ ds) (formed.more_dimensions _ _ lower upper are) =
      other_given (dimension_by c f s d) _ (dimension_other d lower upper) (λ b. other_given (dimensions_by c f s ds) _ (dimensions_other ds are) (λ bs. tt))

  unfoldable pub EachShaped : List Bytes → Type 0
  EachShaped [] = Unit {0}
  EachShaped (x ∷ xs) = AreDimensions c (c.program.attribute x).dimensions × EachShaped xs

  pub all_other : (xs : List Bytes) → EachShaped xs → Other (all_dimensions_by c f s xs)
  unfolding all_dimensions_by EachShaped Other
  all_other [] each = tt
  all_other (x ∷ xs) each =
      other_given (dimensions_by c f s (c.program.attribute x).dimensions) _ (dimensions_other (c.program.attribute x).dimensions each.0)
      (λ b. other_given (all_dimensions_by c f s xs) _ (all_other xs each.1) (λ bs. tt))
