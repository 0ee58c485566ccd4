-- The C expressions for numbers have their values, and those for their places name them.
use Rattle.std.specs.Prelude.{◌≡◌, ℕ, pos, Bool, true, false, not, ◌&&◌, List, [], ◌∷◌, Option, Some, None, if◌then◌else◌}
use Rattle.std.proofs.Common.{refl, sym, ap, ◌∙◌, subst}
use Rattle.c_emit.specs.f_tree.declared.names.Basic.{Basic}
use Rattle.c_emit.specs.f_tree.declared.names.Basic.TheVariants as basic
use Rattle.c_emit.specs.f_tree.Values.{Bytes, Spot, Datum, IsInt, IsLog, IsText, IsSpot, Checked, Gives, Fails, NoMeaning, in_range, given_that}
use Rattle.c_emit.specs.f_tree.Values as fortran
use Rattle.c_emit.specs.f_tree.Terms.{Operator, Both, Either}
use Rattle.c_emit.specs.f_tree.Terms as operation
use Rattle.c_emit.specs.f_tree.Store.{Store, Whole, fetch, fetch_as, value_of_type, whole_at, Number, Truth, Label}
use Rattle.c_emit.specs.f_tree.Facts.{Bounds, Frame}
use Rattle.c_emit.specs.f_tree.Valuing.{Left, Decided, Wants, Wrong, left_of, operated, prefixed, applied, fetched, whole, element, element_at, bounds_of, elements_before, further}
use Rattle.c_emit.specs.l_core.Pures.{Pure, Constant, Temporary, Load, Name, AllOf, ElementOf, FirstOf, Substring, Concatenated, Prefixed, Operated, Applied, Chosen, Pures, NoPure, AndPure, Temporaries, if_kept, where_wanted, chosen, meant, all_meant}
use Rattle.c_emit.specs.c_tree.Access.{ToNumber}
use Rattle.c_emit.specs.c_tree.Objects.{Object}
use Rattle.c_emit.specs.c_tree.Terms as c
use Rattle.c_emit.specs.c_tree.Terms.{Term}
use Rattle.c_image_laws.proofs.c_laws.ValueLaws.{Constant-counts}
use Rattle.c_emit.specs.c_image.World.{World}
use Rattle.c_emit.specs.c_image.Standing.{Stands}
use Rattle.c_emit.specs.c_image.Held.{whole_for, Holds}
use Rattle.c_emit.specs.c_image.Addresses.{access_to, number_term, element_term}
use Rattle.c_emit.specs.c_image.Elements.{index_term}
use Rattle.c_emit.specs.c_image.Operations.{constant_term, function_term, operator_for, prefix_for}
use Rattle.c_emit.specs.c_image.Knowing.{Naming}
use Rattle.c_image_laws.specs.DerivedPlaces.{further_place}
use Rattle.c_image_laws.specs.Meanings.{Means, AllMean, none_mean, more_mean, IsPlace}
use Rattle.c_image_laws.proofs.Contracts.{constants_are_meant}
use Rattle.c_image_laws.proofs.FetchedPlaces.{is_fetched, number_fetched}
use Rattle.c_image_laws.proofs.FoundElements.{elements_are_found}
use Rattle.c_image_laws.proofs.FunctionValues.{function_meant}
use Rattle.c_image_laws.proofs.Keeping.{held_means}
use Rattle.c_image_laws.proofs.OperatorValues.{means_logical, prefix_meant, operator_meant, decided_both, decided_either}
use Rattle.c_image_laws.proofs.PlaceValues.{reached_object, number_place}
use Rattle.c_image_laws.proofs.SoundPlaces.{is_further}
use Rattle.c_image_laws.proofs.TestedValues.{choices_are_meant}
use Rattle.c_emit.specs.Numbers.{Writing, is_numeric, is_variable, has_number, has_shape, is_scalar, is_array, constant_value, with_two, with_three, one_more, steps_from, element_value, applied_value, if_number, value_term, place_term, value_terms}
use Rattle.c_emit_laws.specs.EmittedNumbers.{IsKnown, IsNumberPlace, NumbersAreEmitted, PlacesAreEmitted}
use Rattle.c_emit_laws.proofs.FittingNumbers.{FitsUnit, AllFit, prefixed_fits, operated_fits, applied_fits, fetched_fits}
use Rattle.c_emit_laws.proofs.Choices.{Got, got, mapped_by}
use Rattle.c_emit_laws.proofs.SubscriptLaws.{are_steps, all_behind}

-- ## Constants

constant_means : (objects : List Object) (d : Datum) (term : Term) → constant_value d ≡ Some term → Means objects term d
unfolding constant_value
constant_means objects (IsInt z) term is = by (in_range z) refl is
  where
    by : (test : Bool) → in_range z ≡ test → (if test then Some (constant_term z) else None) ≡ Some term → Means objects term (IsInt z)
    by true fits h = let same : constant_term z ≡ term = cc in subst (λ t. Means objects t (IsInt z)) same (constants_are_meant objects z fits)
    by false fits h = absurd (cc)
constant_means objects (IsLog true) term is =
    let same : c.Constant (pos 1) ≡ term = cc in subst (λ t. Means objects t (IsLog true)) same (means_logical objects (c.Constant (pos 1)) true (Constant-counts objects (pos 1)))
constant_means objects (IsLog false) term is =
    let same : c.Constant (pos 0) ≡ term = cc in subst (λ t. Means objects t (IsLog false)) same (means_logical objects (c.Constant (pos 0)) false (Constant-counts objects (pos 0)))
constant_means objects (IsText cs) term is = absurd (cc)
constant_means objects (IsSpot p) term is = absurd (cc)
constant_means objects (fortran.IsProc x) term is = absurd (cc)
constant_means objects (fortran.IsLabel l) term is = absurd (cc)
constant_means objects fortran.Nothing term is = absurd (cc)

-- ## Choices of the definitions

record IsNumber (holds : Bool) (o : Option Term) (term : Term) : Type 0 where
  holds_is : holds ≡ true
  is : o ≡ Some term

number_by : (holds : Bool) (o : Option Term) (term : Term) → if_number holds o ≡ Some term → IsNumber holds o term
unfolding if_number
number_by true o term h = record { holds_is = refl; is = h }
number_by false o term h = absurd (cc)

record AreTwo (form : Term → Term → Term) (x y : Option Term) (term : Term) : Type 0 where
  one : Term
  other : Term
  one_is : x ≡ Some one
  other_is : y ≡ Some other
  is : form one other ≡ term

two_by : (form : Term → Term → Term) (x y : Option Term) (term : Term) → with_two form x y ≡ Some term → AreTwo form x y term
unfolding with_two
two_by form (Some a) (Some b) term h = record { one = a; other = b; one_is = refl; other_is = refl; is = cc }
two_by form (Some a) None term h = absurd (cc)
two_by form None y term h = absurd (cc)

record AreThree (form : Term → Term → Term → Term) (x y z : Option Term) (term : Term) : Type 0 where
  one : Term
  other : Term
  third : Term
  one_is : x ≡ Some one
  other_is : y ≡ Some other
  third_is : z ≡ Some third
  is : form one other third ≡ term

three_by : (form : Term → Term → Term → Term) (x y z : Option Term) (term : Term) → with_three form x y z ≡ Some term → AreThree form x y z term
unfolding with_three
three_by form (Some a) (Some b) (Some d) term h = record { one = a; other = b; third = d; one_is = refl; other_is = refl; third_is = refl; is = cc }
three_by form (Some a) (Some b) None term h = absurd (cc)
three_by form (Some a) None z term h = absurd (cc)
three_by form None y z term h = absurd (cc)

record AreList (x : Option Term) (xs : Option (List Term)) (terms : List Term) : Type 0 where
  first : Term
  later : List Term
  first_is : x ≡ Some first
  later_is : xs ≡ Some later
  is : first ∷ later ≡ terms

list_by : (x : Option Term) (xs : Option (List Term)) (terms : List Term) → one_more x xs ≡ Some terms → AreList x xs terms
unfolding one_more
list_by (Some a) (Some as') terms h = record { first = a; later = as'; first_is = refl; later_is = refl; is = cc }
list_by (Some a) None terms h = absurd (cc)
list_by None xs terms h = absurd (cc)

record AreApplied (form : List Term → Option Term) (xs : Option (List Term)) (term : Term) : Type 0 where
  terms : List Term
  terms_are : xs ≡ Some terms
  is : form terms ≡ Some term

applied_by : (form : List Term → Option Term) (xs : Option (List Term)) (term : Term) → applied_value form xs ≡ Some term → AreApplied form xs term
unfolding applied_value
applied_by form (Some ts) term h = record { terms = ts; terms_are = refl; is = h }
applied_by form None term h = absurd (cc)

record IsElementValue (naming : Naming) (x : Bytes) (xs : Option (List Term)) (term : Term) : Type 0 where
  terms : List Term
  terms_are : xs ≡ Some terms
  is : element_value naming x (Some terms) ≡ Some term

element_by : (naming : Naming) (x : Bytes) (xs : Option (List Term)) (term : Term) → element_value naming x xs ≡ Some term → IsElementValue naming x xs term
unfolding element_value
element_by naming x (Some ts) term h = record { terms = ts; terms_are = refl; is = h }
element_by naming x None term h = absurd (cc)

left_is : (a b : Bool) → (a && b) ≡ true → a ≡ true
left_is true b h = refl
left_is false b h = absurd (cc)

both_are : (a b : Bool) → (a && b) ≡ true → b ≡ true
both_are true b h = h
both_are false b h = absurd (cc)

numeric_access : (b : Basic) → is_numeric b ≡ true → access_to b ≡ ToNumber
unfolding is_numeric
numeric_access basic.Integer h = refl
numeric_access basic.Logical h = refl
numeric_access basic.Character h = absurd (cc)
numeric_access basic.Untyped h = absurd (cc)

-- ## Fetches: what is fetched at a place of a number is a number or a truth value

record IsWhole (d : Datum) : Type 0 where
  value : Whole
  is : whole_for d ≡ Some value

integer_fetched : (found : Option Whole) (d : Datum) → value_of_type basic.Integer found ≡ Gives d → IsWhole d
unfolding value_of_type
integer_fetched None d h = absurd (cc)
integer_fetched (Some (Number z)) d h = let same : IsInt z ≡ d = cc in subst IsWhole same (record { value = Number z; is = refl })
integer_fetched (Some (Truth b)) d h = absurd (cc)
integer_fetched (Some (Label owner l)) d h = absurd (cc)

logical_fetched : (found : Option Whole) (d : Datum) → value_of_type basic.Logical found ≡ Gives d → IsWhole d
unfolding value_of_type
logical_fetched None d h = absurd (cc)
logical_fetched (Some (Number z)) d h = absurd (cc)
logical_fetched (Some (Truth b)) d h = let same : IsLog b ≡ d = cc in subst IsWhole same (record { value = Truth b; is = refl })
logical_fetched (Some (Label owner l)) d h = absurd (cc)

whole_fetched : (b : Basic) (p : Spot) (cells : _) (d : Datum) → access_to b ≡ ToNumber → fetch_as b p cells ≡ Gives d → IsWhole d
unfolding fetch_as
whole_fetched basic.Integer p cells d numeric h = integer_fetched (whole_at p.first cells) d h
whole_fetched basic.Logical p cells d numeric h = logical_fetched (whole_at p.first cells) d h
whole_fetched basic.Character p cells d numeric h = absurd (cc)
whole_fetched basic.Untyped p cells d numeric h = absurd (cc)

-- the elements before one that is found
counted : (x : Bytes) (bs : List Bounds) (ds : List Datum) (p : Spot) (d : Datum) → element_at x bs ds (IsSpot p) ≡ Gives d → Got (elements_before x 1 bs ds) (further p) d
unfolding element_at
counted x bs ds p d h = got (elements_before x 1 bs ds) (further p) d h

-- ## Operators whose left operand is valued

wanted_gives : (r : Checked Datum) (d : Datum) → where_wanted Wants r ≡ Gives d → r ≡ Gives d
unfolding where_wanted
wanted_gives r d h = h

decided_gives : (e : Datum) (r : Checked Datum) (d : Datum) → where_wanted (Decided e) r ≡ Gives d → e ≡ d
unfolding where_wanted
decided_gives e r d h = cc

wrong_gives : (r : Checked Datum) (d : Datum) → where_wanted Wrong r ≡ Gives d → ⊥
unfolding where_wanted
wrong_gives r d h = cc

-- which left operands decide
data Decides : Operator → Datum → Datum → Type 0 where
  both_false : Decides Both (IsLog false) (IsLog false)
  either_true : Decides Either (IsLog true) (IsLog true)

decides : (op : Operator) (a e : Datum) → left_of op a ≡ Decided e → Decides op a e
unfolding left_of
decides operation.Add a e is = absurd (cc)
decides operation.Subtract a e is = absurd (cc)
decides operation.Multiply a e is = absurd (cc)
decides operation.Divide a e is = absurd (cc)
decides operation.IsLess a e is = absurd (cc)
decides operation.IsLessOrEqual a e is = absurd (cc)
decides operation.IsEqual a e is = absurd (cc)
decides operation.IsNotEqual a e is = absurd (cc)
decides operation.IsGreater a e is = absurd (cc)
decides operation.IsGreaterOrEqual a e is = absurd (cc)
decides Both (IsInt z) e is = absurd (cc)
decides Both (IsLog false) e is = let same : IsLog false ≡ e = cc in subst (Decides Both (IsLog false)) same both_false
decides Both (IsLog true) e is = absurd (cc)
decides Both (IsText cs) e is = absurd (cc)
decides Both (IsSpot p) e is = absurd (cc)
decides Both (fortran.IsProc x) e is = absurd (cc)
decides Both (fortran.IsLabel l) e is = absurd (cc)
decides Both fortran.Nothing e is = absurd (cc)
decides Either (IsInt z) e is = absurd (cc)
decides Either (IsLog false) e is = absurd (cc)
decides Either (IsLog true) e is = let same : IsLog true ≡ e = cc in subst (Decides Either (IsLog true)) same either_true
decides Either (IsText cs) e is = absurd (cc)
decides Either (IsSpot p) e is = absurd (cc)
decides Either (fortran.IsProc x) e is = absurd (cc)
decides Either (fortran.IsLabel l) e is = absurd (cc)
decides Either fortran.Nothing e is = absurd (cc)
decides operation.Same a e is = absurd (cc)
decides operation.Different a e is = absurd (cc)

operator_means : (objects : List Object) (op : Operator) (one other : Term) (a d : Datum) (right : Checked Datum) → Means objects one a → ((b : Datum) → right ≡ Gives b → Means objects other b)
    → where_wanted (left_of op a) (given_that right (operated op a)) ≡ Gives d → Means objects (c.Between (operator_for op) one other) d
operator_means objects op one other a d right means other_means gives = by (left_of op a) refl gives
  where
    by_decision : (op : Operator) (a e : Datum) → Decides op a e → Means objects one a → Means objects (c.Between (operator_for op) one other) e
    by_decision _ _ _ both_false means = decided_both objects one other means
    by_decision _ _ _ either_true means = decided_either objects one other means

    by : (left : Left) → left_of op a ≡ left → where_wanted left (given_that right (operated op a)) ≡ Gives d → Means objects (c.Between (operator_for op) one other) d
    by Wants is h =
        let g = got right (operated op a) d (wanted_gives (given_that right (operated op a)) d h) in operator_meant objects op a g.value d one other g.gives means (other_means g.value g.is)
    by (Decided e) is h =
        subst (Means objects (c.Between (operator_for op) one other)) (decided_gives e (given_that right (operated op a)) d h) (by_decision op a e (decides op a e is) means)
    by Wrong is h = absurd (wrong_gives (given_that right (operated op a)) d h)

operator_fits : (op : Operator) (a d : Datum) (right : Checked Datum) → where_wanted (left_of op a) (given_that right (operated op a)) ≡ Gives d → FitsUnit d
operator_fits op a d right gives = by (left_of op a) refl gives
  where
    by_decision : (op : Operator) (a e : Datum) → Decides op a e → FitsUnit e
    by_decision _ _ _ both_false = tt
    by_decision _ _ _ either_true = tt

    by : (left : Left) → left_of op a ≡ left → where_wanted left (given_that right (operated op a)) ≡ Gives d → FitsUnit d
    by Wants is h = let g = got right (operated op a) d (wanted_gives (given_that right (operated op a)) d h) in operated_fits op a g.value d g.gives
    by (Decided e) is h = subst FitsUnit (decided_gives e (given_that right (operated op a)) d h) (by_decision op a e (decides op a e is))
    by Wrong is h = absurd (wrong_gives (given_that right (operated op a)) d h)

choice_fits : (a d : Datum) (yes' no' : Checked Datum) → (yes' ≡ Gives d → FitsUnit d) → (no' ≡ Gives d → FitsUnit d) → chosen a yes' no' ≡ Gives d → FitsUnit d
unfolding chosen
choice_fits (IsLog true) d yes' no' one other h = one h
choice_fits (IsLog false) d yes' no' one other h = other h
choice_fits (IsInt z) d yes' no' one other h = absurd (cc)
choice_fits (IsText cs) d yes' no' one other h = absurd (cc)
choice_fits (IsSpot p) d yes' no' one other h = absurd (cc)
choice_fits (fortran.IsProc x) d yes' no' one other h = absurd (cc)
choice_fits (fortran.IsLabel l) d yes' no' one other h = absurd (cc)
choice_fits fortran.Nothing d yes' no' one other h = absurd (cc)

-- ## Values and places

module _ (μ : World) (s : Store) (objects : List Object) (w : Writing) (frame : Frame) (temporaries : Temporaries) (stands : Stands μ s objects) (known : IsKnown μ w frame temporaries) where
  kept_is : (o : Option Datum) (d : Datum) → if_kept o ≡ Gives d → o ≡ Some d
  unfolding if_kept
  kept_is None d h = absurd (cc)
  kept_is (Some e) d h = let same : e ≡ d = cc in ap Some same

  temporary_means : (k : ℕ) (term : Term) (d : Datum) → if_number (w.is_number k) (Some (c.Variable (w.naming.temporary k) ToNumber)) ≡ Some term → if_kept (temporaries k) ≡ Gives d → Means objects term d
  temporary_means k term d emitted gives =
      let number = number_by (w.is_number k) _ term emitted in
      let kept = kept_is (temporaries k) d gives in
      let whole' = known.numbers k d kept number.holds_is in
      let same : c.Variable (w.naming.temporary k) ToNumber ≡ term = (let e = number.is in cc) in
      subst (λ t. Means objects t d) same (held_means μ s objects (w.naming.temporary k) d whole'.0 stands (known.knows.kept k d kept) whole'.1)

  fetch_means : (term : Term) (place d : Datum) → IsNumberPlace μ objects term place → fetched s place ≡ Gives d → Means objects term d
  unfolding fetched
  fetch_means term place d at gives =
      let there : fetch s at.place ≡ Gives d = sym (ap (fetched s) at.is) ∙ gives in
      let found = is_fetched s at.place d there in
      let value = whole_fetched at.place.basic at.place found.sequence.cells d at.numeric found.found in
      record { whole = value.value; is = value.is; counts = at.named.holds ∙ number_fetched μ s objects at.place at.object d value.value stands at.sound at.at there value.is }

  name_place : (x : Bytes) (term : Term) (d : Datum) → if_number (is_scalar w x) (Some (number_term (w.naming.address x))) ≡ Some term → whole w.facts frame x ≡ Gives d → IsNumberPlace μ objects term d
  unfolding has_number is_scalar
  name_place x term d emitted gives =
      let number = number_by (is_scalar w x) _ term emitted in
      let holds = left_is (has_number w x) (not (has_shape (w.facts.program.attribute x).dimensions)) number.holds_is in
      let spot = known.spots x d holds gives in
      let is : whole w.facts frame x ≡ Gives (IsSpot spot.0) = gives ∙ ap Gives spot.1 in
      let reaches = known.knows.reaches x spot.0 is in
      let sound = known.knows.sound x spot.0 is in
      let object = reached_object μ spot.0 (w.naming.address x) reaches in
      let typed = numeric_access (w.facts.program.attribute x).basic (both_are (is_variable (w.facts.program.attribute x).class) (is_numeric (w.facts.program.attribute x).basic) holds) in
      let numeric : access_to spot.0.basic ≡ ToNumber = ap access_to (known.types x spot.0 is) ∙ typed in
      let same : number_term (w.naming.address x) ≡ term = (let e = number.is in cc) in
      record {
        place = spot.0;
        is = spot.1;
        sound = sound;
        numeric = numeric;
        object = object.0;
        at = object.1;
        named = subst (λ t. IsPlace objects t object.0 spot.0.first ToNumber) same (number_place μ s objects spot.0 (w.naming.address x) object.0 stands sound numeric reaches object.1);
      }

  array_holds : (x : Bytes) → is_array w x ≡ true → has_number w x ≡ true
  unfolding is_array
  array_holds x h = left_is (has_number w x) (has_shape (w.facts.program.attribute x).dimensions) h

  element_place : (x : Bytes) (ts : List Term) (ds : List Datum) (term : Term) (d : Datum) → has_number w x ≡ true → element_value w.naming x (Some ts) ≡ Some term → AllMean objects ts ds →
      element w.facts frame x ds ≡ Gives d → IsNumberPlace μ objects term d
  unfolding has_number element element_value
  element_place x ts ds term d holds emitted means gives =
      let named = got (whole w.facts frame x) (element_at x (bounds_of w.facts frame x) ds) d gives in
      let spot = known.spots x named.value holds named.is in
      let is : whole w.facts frame x ≡ Gives (IsSpot spot.0) = named.is ∙ ap Gives spot.1 in
      let found : element_at x (bounds_of w.facts frame x) ds (IsSpot spot.0) ≡ Gives d = sym (ap (element_at x (bounds_of w.facts frame x) ds) spot.1) ∙ named.gives in
      let reaches = known.knows.reaches x spot.0 is in
      let sound = known.knows.sound x spot.0 is in
      let object = reached_object μ spot.0 (w.naming.address x) reaches in
      let typed = numeric_access (w.facts.program.attribute x).basic (both_are (is_variable (w.facts.program.attribute x).class) (is_numeric (w.facts.program.attribute x).basic) holds) in
      let numeric : access_to spot.0.basic ≡ ToNumber = ap access_to (known.types x spot.0 is) ∙ typed in
      let count = counted x (bounds_of w.facts frame x) ds spot.0 d found in
      let steps = are_steps μ s objects w frame temporaries stands known x 0 1 count.value (bounds_of w.facts frame x) ts ds (all_behind μ s objects w frame temporaries stands known x) means count.is in
      let at = elements_are_found μ s objects x spot.0 (w.naming.address x) object.0 (bounds_of w.facts frame x) ds (steps_from w.naming x 0 ts) d stands sound numeric reaches object.1 steps found in
      let same : element_term (w.naming.address x) (index_term (steps_from w.naming x 0 ts)) ≡ term = (let e = emitted in cc) in
      let further_on = is_further spot.0 count.value d count.gives in
      let one : IsSpot (further_place spot.0 count.value) ≡ IsSpot at.place = further_on.is ∙ sym at.is in
      let place_same : further_place spot.0 count.value ≡ at.place = (let e = one in cc) in
      let basic_same : spot.0.basic ≡ at.place.basic = ap (λ (p : Spot). p.basic) place_same in
      record {
        place = at.place;
        is = sym at.is;
        sound = at.sound;
        numeric = sym (ap access_to basic_same) ∙ numeric;
        object = object.0;
        at = at.at;
        named = subst (λ t. IsPlace objects t object.0 at.place.first ToNumber) same at.found;
      }

  choice_means : (test first second : Term) (a d : Datum) (yes' no' : Checked Datum) → Means objects test a → (yes' ≡ Gives d → Means objects first d) → (no' ≡ Gives d → Means objects second d) → chosen a yes' no' ≡ Gives d →
      Means objects (c.Choice test first second) d
  unfolding chosen
  choice_means test first second (IsLog true) d yes' no' means one other gives = choices_are_meant objects test first second true d means (one gives)
  choice_means test first second (IsLog false) d yes' no' means one other gives = choices_are_meant objects test first second false d means (other gives)
  choice_means test first second (IsInt z) d yes' no' means one other gives = absurd (cc)
  choice_means test first second (IsText cs) d yes' no' means one other gives = absurd (cc)
  choice_means test first second (IsSpot p) d yes' no' means one other gives = absurd (cc)
  choice_means test first second (fortran.IsProc x) d yes' no' means one other gives = absurd (cc)
  choice_means test first second (fortran.IsLabel l) d yes' no' means one other gives = absurd (cc)
  choice_means test first second fortran.Nothing d yes' no' means one other gives = absurd (cc)

  mutual
    unfolding value_term place_term value_terms meant all_meant

    values : (p : Pure) (term : Term) (d : Datum) → value_term w p ≡ Some term → meant w.facts frame temporaries s p ≡ Gives d → Means objects term d
    values (Constant e) term d emitted gives = let same : e ≡ d = (let h = gives in cc) in subst (Means objects term) same (constant_means objects e term emitted)
    values (Temporary k) term d emitted gives = temporary_means k term d emitted gives
    values (Load p) term d emitted gives =
        let g = got (meant w.facts frame temporaries s p) (fetched s) d gives in fetch_means term g.value d (places p term g.value emitted g.is) g.gives
    values (Prefixed op p) term d emitted gives =
        let m = mapped_by (c.Prefixed (prefix_for op)) (value_term w p) term emitted in
        let g = got (meant w.facts frame temporaries s p) (prefixed op) d gives in
        subst (λ t. Means objects t d) m.is (prefix_meant objects op g.value d m.one g.gives (values p m.one g.value m.one_is g.is))
    values (Operated op p q) term d emitted gives =
        let m = two_by (c.Between (operator_for op)) (value_term w p) (value_term w q) term emitted in
        let g = got (meant w.facts frame temporaries s p) _ d gives in
        subst (λ t. Means objects t d) m.is
        (operator_means objects op m.one m.other g.value d (meant w.facts frame temporaries s q) (values p m.one g.value m.one_is g.is) (λ b is. values q m.other b m.other_is is) g.gives)
    values (Applied function ps) term d emitted gives =
        let m = applied_by (function_term function) (value_terms w ps) term emitted in
        let g = got (all_meant w.facts frame temporaries s ps) (applied function) d gives in
        function_meant objects function m.terms g.value d term g.gives (all_values ps m.terms g.value m.terms_are g.is) m.is
    values (Chosen p q r) term d emitted gives =
        let m = three_by c.Choice (value_term w p) (value_term w q) (value_term w r) term emitted in
        let g = got (meant w.facts frame temporaries s p) _ d gives in
        subst (λ t. Means objects t d) m.is
        (choice_means m.one m.other m.third g.value d (meant w.facts frame temporaries s q) (meant w.facts frame temporaries s r) (values p m.one g.value m.one_is g.is)
        (λ is. values q m.other d m.other_is is) (λ is. values r m.third d m.third_is is) g.gives)
    values (Name x) term d emitted gives = absurd (cc)
    values (AllOf x) term d emitted gives = absurd (cc)
    values (ElementOf x ps) term d emitted gives = absurd (cc)
    values (FirstOf p) term d emitted gives = absurd (cc)
    values (Substring x p from to) term d emitted gives = absurd (cc)
    values (Concatenated ps) term d emitted gives = absurd (cc)

    places : (p : Pure) (term : Term) (d : Datum) → place_term w p ≡ Some term → meant w.facts frame temporaries s p ≡ Gives d → IsNumberPlace μ objects term d
    places (Name x) term d emitted gives = name_place x term d emitted gives
    places (ElementOf x ps) term d emitted gives =
        let number = number_by (is_array w x) (element_value w.naming x (value_terms w ps)) term emitted in
        let g = got (all_meant w.facts frame temporaries s ps) (element w.facts frame x) d gives in
        let m = element_by w.naming x (value_terms w ps) term number.is in
        element_place x m.terms g.value term d (array_holds x number.holds_is) m.is (all_values ps m.terms g.value m.terms_are g.is) g.gives
    places (Constant e) term d emitted gives = absurd (cc)
    places (Temporary k) term d emitted gives = absurd (cc)
    places (Load p) term d emitted gives = absurd (cc)
    places (AllOf x) term d emitted gives = absurd (cc)
    places (FirstOf p) term d emitted gives = absurd (cc)
    places (Substring x p from to) term d emitted gives = absurd (cc)
    places (Concatenated ps) term d emitted gives = absurd (cc)
    places (Prefixed op p) term d emitted gives = absurd (cc)
    places (Operated op p q) term d emitted gives = absurd (cc)
    places (Applied function ps) term d emitted gives = absurd (cc)
    places (Chosen p q r) term d emitted gives = absurd (cc)

    all_values : (ps : Pures) (terms : List Term) (ds : List Datum) → value_terms w ps ≡ Some terms → all_meant w.facts frame temporaries s ps ≡ Gives ds → AllMean objects terms ds
    all_values NoPure terms ds emitted gives =
        let none : [] ≡ terms = (let h = emitted in cc) in
        let no_data : [] ≡ ds = (let h = gives in cc) in
        subst (λ ts. AllMean objects ts ds) none (subst (AllMean objects []) no_data none_mean)
    all_values (AndPure p ps) terms ds emitted gives =
        let m = list_by (value_term w p) (value_terms w ps) terms emitted in
        let g = got (meant w.facts frame temporaries s p) _ ds gives in
        let h = got (all_meant w.facts frame temporaries s ps) (λ later. Gives (g.value ∷ later)) ds g.gives in
        let same : g.value ∷ h.value ≡ ds = (let e = h.gives in cc) in
        subst (λ ts. AllMean objects ts ds) m.is (subst (AllMean objects (m.first ∷ m.later)) same
        (more_mean m.first m.later g.value h.value (values p m.first g.value m.first_is g.is) (all_values ps m.later h.value m.later_is h.is)))

  constant_fits : (e : Datum) (term : Term) → constant_value e ≡ Some term → FitsUnit e
  unfolding constant_value
  constant_fits (IsInt z) term h = by (in_range z) refl h
    where
      by : (test : Bool) → in_range z ≡ test → (if test then Some (constant_term z) else None) ≡ Some term → in_range z ≡ true
      by true fits h = fits
      by false fits h = absurd (cc)
  constant_fits (IsLog b) term h = tt
  constant_fits (IsText cs) term h = tt
  constant_fits (IsSpot p) term h = tt
  constant_fits (fortran.IsProc x) term h = tt
  constant_fits (fortran.IsLabel l) term h = tt
  constant_fits fortran.Nothing term h = tt

  held_fits : (object : Option Object) (d : Datum) → Holds object d → FitsUnit d
  held_fits object (IsInt z) held = held.begins.0
  held_fits object (IsLog b) held = tt
  held_fits object (IsText cs) held = tt
  held_fits object (IsSpot p) held = tt
  held_fits object (fortran.IsProc x) held = tt
  held_fits object (fortran.IsLabel l) held = tt
  held_fits object fortran.Nothing held = tt

  place_fits : (term : Term) (place d : Datum) → IsNumberPlace μ objects term place → fetched s place ≡ Gives d → FitsUnit d
  unfolding fetched
  place_fits term place d at gives = fetched_fits μ s objects at.place d stands at.numeric (sym (ap (fetched s) at.is) ∙ gives)

  mutual
    unfolding value_term value_terms meant all_meant

    fits : (p : Pure) (term : Term) (d : Datum) → value_term w p ≡ Some term → meant w.facts frame temporaries s p ≡ Gives d → FitsUnit d
    fits (Constant e) term d emitted gives = let same : e ≡ d = (let h = gives in cc) in subst FitsUnit same (constant_fits e term emitted)
    fits (Temporary k) term d emitted gives = held_fits (μ.frozen (w.naming.temporary k)) d (known.knows.kept k d (kept_is (temporaries k) d gives))
    fits (Load p) term d emitted gives =
        let g = got (meant w.facts frame temporaries s p) (fetched s) d gives in place_fits term g.value d (places p term g.value emitted g.is) g.gives
    fits (Prefixed op p) term d emitted gives = let g = got (meant w.facts frame temporaries s p) (prefixed op) d gives in prefixed_fits op g.value d g.gives
    fits (Operated op p q) term d emitted gives =
        let g = got (meant w.facts frame temporaries s p) (λ a. where_wanted (left_of op a) (given_that (meant w.facts frame temporaries s q) (operated op a))) d gives in
        operator_fits op g.value d (meant w.facts frame temporaries s q) g.gives
    fits (Applied function ps) term d emitted gives =
        let m = applied_by (function_term function) (value_terms w ps) term emitted in
        let g = got (all_meant w.facts frame temporaries s ps) (applied function) d gives in
        applied_fits function m.terms g.value d term m.is (all_fit ps m.terms g.value m.terms_are g.is) g.gives
    fits (Chosen p q r) term d emitted gives =
        let m = three_by c.Choice (value_term w p) (value_term w q) (value_term w r) term emitted in
        let g = got (meant w.facts frame temporaries s p) (λ a. chosen a (meant w.facts frame temporaries s q) (meant w.facts frame temporaries s r)) d gives in
        choice_fits g.value d (meant w.facts frame temporaries s q) (meant w.facts frame temporaries s r) (λ is. fits q m.other d m.other_is is) (λ is. fits r m.third d m.third_is is) g.gives
    fits (Name x) term d emitted gives = absurd (cc)
    fits (AllOf x) term d emitted gives = absurd (cc)
    fits (ElementOf x ps) term d emitted gives = absurd (cc)
    fits (FirstOf p) term d emitted gives = absurd (cc)
    fits (Substring x p from to) term d emitted gives = absurd (cc)
    fits (Concatenated ps) term d emitted gives = absurd (cc)

    all_fit : (ps : Pures) (terms : List Term) (ds : List Datum) → value_terms w ps ≡ Some terms → all_meant w.facts frame temporaries s ps ≡ Gives ds → AllFit ds
    all_fit NoPure terms ds emitted gives = let no_data : [] ≡ ds = (let h = gives in cc) in subst AllFit no_data tt
    all_fit (AndPure p ps) terms ds emitted gives =
        let m = list_by (value_term w p) (value_terms w ps) terms emitted in
        let g = got (meant w.facts frame temporaries s p) (λ d. given_that (all_meant w.facts frame temporaries s ps) (λ later. Gives (d ∷ later))) ds gives in
        let h = got (all_meant w.facts frame temporaries s ps) (λ later. Gives (g.value ∷ later)) ds g.gives in
        let same : g.value ∷ h.value ≡ ds = (let e = h.gives in cc) in
        subst AllFit same (fits p m.first g.value m.first_is g.is, all_fit ps m.later h.value m.later_is h.is)

pub numbers_are_emitted : NumbersAreEmitted
numbers_are_emitted μ s objects w frame temporaries p term d stands known emitted gives = values μ s objects w frame temporaries stands known p term d emitted gives

pub places_are_emitted : PlacesAreEmitted
places_are_emitted μ s objects w frame temporaries p term d stands known emitted gives = places μ s objects w frame temporaries stands known p term d emitted gives

pub values_fit : (μ : World) (s : Store) (objects : List Object) (w : Writing) (frame : Frame) (temporaries : Temporaries) (p : Pure) (term : Term) (d : Datum) → Stands μ s objects → IsKnown μ w frame temporaries
    → value_term w p ≡ Some term → meant w.facts frame temporaries s p ≡ Gives d → FitsUnit d
values_fit μ s objects w frame temporaries p term d stands known emitted gives = fits μ s objects w frame temporaries stands known p term d emitted gives
