-- What an emitted value comes to over the numbers that temporaries keep: what it comes to over all that they keep, unless that is no value.
use Rattle.std.specs.Prelude.{◌≡◌, ℕ, ◌*◌, ◌+◌, nat_abs, ◌-ℤ◌, ℤ, Bool, true, false, List, [], ◌∷◌, Option, Some, None, slice_get, if◌then◌else◌}
use Rattle.std.proofs.Common.{refl, sym, ap, ◌∙◌, subst}
use Rattle.procedure_emission.specs.f_tree.declared.names.Basic.{Basic}
use Rattle.procedure_emission.specs.f_tree.declared.names.Basic.TheVariants as basic
use Rattle.procedure_emission.specs.f_tree.Values.{Bytes, Spot, Datum, IsInt, IsLog, IsText, IsSpot, IsProc, IsLabel, Nothing, DefinesReadOnly, PastExtent, OutOfBounds, Checked, Gives, Fails, given_that}
use Rattle.procedure_emission.specs.f_tree.Terms.{Prefix, Operator, Function}
use Rattle.procedure_emission.specs.f_tree.Terms as operation
use Rattle.procedure_emission.specs.f_tree.Store.{Store, Sequence, defined_as, stored_in, has_room, define_in, define}
use Rattle.procedure_emission.specs.f_tree.Facts.{Bounds, Frame}
use Rattle.procedure_emission.specs.f_tree.Valuing.{prefixed, operated, Left, Decided, Wants, Wrong, left_of, applied, extreme, int_max, int_min, is_within, size_of_dimension, elements_before, further, element_at, bounds_of, element, whole, fetched}
use Rattle.procedure_emission.specs.l_core.Pures.{Pure, Constant, Temporary, Load, Name, AllOf, ElementOf, FirstOf, Substring, Concatenated, Prefixed, Operated, Applied, Chosen, Pures, NoPure, AndPure, Temporaries, if_kept, where_wanted, chosen, meant, all_meant}
use Rattle.procedure_emission.specs.l_core.Machine.{put_at}
use Rattle.procedure_emission.specs.f_tree.Setting.{IsIn, first_in, later_in}
use Rattle.procedure_emission.specs.c_tree.Terms as c
use Rattle.procedure_emission.specs.c_tree.Terms.{Term}
use Rattle.procedure_emission.specs.c_image.Operations.{prefix_for, operator_for, function_term}
use Rattle.procedure_emission.specs.c_emit.Numbers.{Writing, with_two, with_three, one_more, element_value, applied_value, if_number, is_array, value_term, place_term, value_terms}
use Rattle.procedure_emission.specs.c_emit.Calls.{held_term, held_terms}
use Rattle.procedure_emission.specs.c_emit.Types.{HasType}
use Rattle.procedure_emission.proofs.c_emit_laws.Choices.{got, mapped_by}
use Rattle.procedure_emission.proofs.c_emit_laws.HeldNumbers.{AreIntegers, more_integers}
use Rattle.procedure_emission.specs.Reading.{IsPlain, plain_number, plain_truth, plain_nothing, number_kept, numbers_kept}

pub data IsRead (r : Checked Datum) (d : Datum) : Type 0 where
  the_same : r ≡ Gives d → IsRead r d
  no_value : Nothing ≡ d → IsRead r d

pub data AreRead (r : Checked (List Datum)) (ds : List Datum) : Type 0 where
  all_same : r ≡ Gives ds → AreRead r ds
  one_lost : IsIn Nothing ds → AreRead r ds

pub integer_read : (r : Checked Datum) (z : ℤ) → IsRead r (IsInt z) → r ≡ Gives (IsInt z)
integer_read r z (the_same is) = is
integer_read r z (no_value is) = absurd (cc)

given_same : {A : Type 0} (a b : A) → Gives a ≡ Gives b → a ≡ b
given_same a b h = cc

-- ## Nothing has no place in them

prefixed_nothing : {A : Type 0} (op : Prefix) (d : Datum) → prefixed op Nothing ≡ Gives d → A
unfolding prefixed
prefixed_nothing operation.Negate d h = absurd (cc)
prefixed_nothing operation.Complement d h = absurd (cc)

operated_nothing : {A : Type 0} (op : Operator) (b d : Datum) → operated op Nothing b ≡ Gives d → A
unfolding operated
operated_nothing op b d h = absurd (cc)

nothing_operated : {A : Type 0} (op : Operator) (a d : Datum) → operated op a Nothing ≡ Gives d → A
unfolding operated
nothing_operated op (IsInt z) d h = absurd (cc)
nothing_operated op (IsLog b) d h = absurd (cc)
nothing_operated op (IsText cs) d h = absurd (cc)
nothing_operated op _ d h = absurd (cc)

left_nothing : {A : Type 0} (op : Operator) (d : Datum) (right : Checked Datum) → where_wanted (left_of op Nothing) (given_that right (operated op Nothing)) ≡ Gives d → A
unfolding left_of where_wanted
left_nothing operation.Both d right h = absurd (cc)
left_nothing operation.Either d right h = absurd (cc)
left_nothing operation.Add d right h = let g = got right (operated operation.Add Nothing) d h in operated_nothing operation.Add g.value d g.gives
left_nothing operation.Subtract d right h = let g = got right (operated operation.Subtract Nothing) d h in operated_nothing operation.Subtract g.value d g.gives
left_nothing operation.Multiply d right h = let g = got right (operated operation.Multiply Nothing) d h in operated_nothing operation.Multiply g.value d g.gives
left_nothing operation.Divide d right h = let g = got right (operated operation.Divide Nothing) d h in operated_nothing operation.Divide g.value d g.gives
left_nothing operation.IsLess d right h = let g = got right (operated operation.IsLess Nothing) d h in operated_nothing operation.IsLess g.value d g.gives
left_nothing operation.IsLessOrEqual d right h = let g = got right (operated operation.IsLessOrEqual Nothing) d h in operated_nothing operation.IsLessOrEqual g.value d g.gives
left_nothing operation.IsEqual d right h = let g = got right (operated operation.IsEqual Nothing) d h in operated_nothing operation.IsEqual g.value d g.gives
left_nothing operation.IsNotEqual d right h = let g = got right (operated operation.IsNotEqual Nothing) d h in operated_nothing operation.IsNotEqual g.value d g.gives
left_nothing operation.IsGreater d right h = let g = got right (operated operation.IsGreater Nothing) d h in operated_nothing operation.IsGreater g.value d g.gives
left_nothing operation.IsGreaterOrEqual d right h = let g = got right (operated operation.IsGreaterOrEqual Nothing) d h in operated_nothing operation.IsGreaterOrEqual g.value d g.gives
left_nothing operation.Same d right h = let g = got right (operated operation.Same Nothing) d h in operated_nothing operation.Same g.value d g.gives
left_nothing operation.Different d right h = let g = got right (operated operation.Different Nothing) d h in operated_nothing operation.Different g.value d g.gives

chosen_nothing : {A : Type 0} (q r : Checked Datum) (d : Datum) → chosen Nothing q r ≡ Gives d → A
unfolding chosen
chosen_nothing q r d h = absurd (cc)

none_among : {A : Type 0} {B : Type 0} (a : A) → IsIn a [] → B
none_among a among = elim among [ ]

only_among : (d e : Datum) → IsIn d (e ∷ []) → e ≡ d
only_among d _ first_in = refl
only_among d e (later_in among) = none_among d among

number_nothing : {A : Type 0} (z : ℤ) → IsInt z ≡ Nothing → A
number_nothing z h = absurd (cc)

extreme_nothing : {A : Type 0} (pick : ℤ → ℤ → ℤ) (best : ℤ) (ds : List Datum) (d : Datum) → extreme pick best ds ≡ Gives d → IsIn Nothing ds → A
unfolding extreme
extreme_nothing pick best [] d h among = none_among Nothing among
extreme_nothing pick best (IsInt z ∷ ds) d h (later_in among) = extreme_nothing pick (pick best z) ds d h among
extreme_nothing pick best (_ ∷ ds) d h among = absurd (cc)

after_number : {A : Type 0} (z : ℤ) (ds : List Datum) → (IsIn Nothing ds → A) → IsIn Nothing (IsInt z ∷ ds) → A
after_number z ds more (later_in among) = more among

-- of the functions that are emitted as expressions
applied_nothing : {A : Type 0} (f : Function) (terms : List Term) (ds : List Datum) (term : Term) (d : Datum) → function_term f terms ≡ Some term → applied f ds ≡ Gives d → IsIn Nothing ds → A
unfolding applied
applied_nothing operation.Truncation terms (IsInt a ∷ []) term d is h among = after_number a [] (none_among Nothing) among
applied_nothing operation.Magnitude terms (IsInt a ∷ []) term d is h among = after_number a [] (none_among Nothing) among
applied_nothing operation.Remainder terms (IsInt a ∷ IsInt b ∷ []) term d is h among = after_number a (IsInt b ∷ []) (after_number b [] (none_among Nothing)) among
applied_nothing operation.Largest terms (IsInt a ∷ ds) term d is h among = after_number a ds (extreme_nothing int_max a ds d h) among
applied_nothing operation.Smallest terms (IsInt a ∷ ds) term d is h among = after_number a ds (extreme_nothing int_min a ds d h) among
applied_nothing _ terms _ term d is h among = absurd (cc)

subscript_nothing : {A : Type 0} (x : Bytes) (stride : ℕ) (bs : List Bounds) (ds : List Datum) (n : ℕ) → elements_before x stride bs ds ≡ Gives n → IsIn Nothing ds → A
unfolding elements_before
subscript_nothing x stride [] [] n h among = none_among Nothing among
subscript_nothing x stride (b ∷ bs) (IsInt z ∷ ds) n h (later_in among) =
    by (is_within z b) h (λ k is. subscript_nothing x (stride * size_of_dimension b) bs ds k is among)
  where
    by : {A : Type 0} (within : Bool) → (if within then given_that (elements_before x (stride * size_of_dimension b) bs ds) (λ k. Gives (nat_abs (z -ℤ b.lower) * stride + k)) else Fails (OutOfBounds x z)) ≡ Gives n
        → ((k : ℕ) → elements_before x (stride * size_of_dimension b) bs ds ≡ Gives k → A) → A
    by true g more = let found = got (elements_before x (stride * size_of_dimension b) bs ds) (λ k. Gives (nat_abs (z -ℤ b.lower) * stride + k)) n g in more found.value found.is
    by false g more = absurd (cc)
subscript_nothing x stride _ _ n h among = absurd (cc)

spot_nothing : {A : Type 0} (x : Bytes) (bs : List Bounds) (ds : List Datum) (r d : Datum) → element_at x bs ds r ≡ Gives d → IsIn Nothing ds → A
unfolding element_at
spot_nothing x bs ds (IsSpot p) d h among = let found = got (elements_before x 1 bs ds) (further p) d h in subscript_nothing x 1 bs ds found.value found.is among
spot_nothing x bs ds _ d h among = absurd (cc)

-- and it is put nowhere
defined_nothing : {A : Type 0} (s later : Store) (n : ℕ) (b : Basic) (p : Spot) (q : Sequence) → stored_in s n (defined_as b p Nothing q.cells) ≡ Gives later → A
unfolding defined_as stored_in
defined_nothing s later n basic.Integer p q h = absurd (cc)
defined_nothing s later n basic.Logical p q h = absurd (cc)
defined_nothing s later n basic.Character p q h = absurd (cc)
defined_nothing s later n basic.Untyped p q h = absurd (cc)

define_in_nothing : {A : Type 0} (s later : Store) (p : Spot) (found : Option Sequence) → define_in s p Nothing found ≡ Gives later → A
unfolding define_in
define_in_nothing s later p None h = absurd (cc)
define_in_nothing s later p (Some q) h = by q.read_only (has_room p q.cells) h
  where
    by : {A : Type 0} (locked room : Bool) → (if locked then Fails DefinesReadOnly else if room then stored_in s p.sequence (defined_as p.basic p Nothing q.cells) else Fails PastExtent) ≡ Gives later → A
    by true room g = absurd (cc)
    by false true g = defined_nothing s later p.sequence p.basic p q g
    by false false g = absurd (cc)

pub put_nothing : {A : Type 0} (s later : Store) (r : Datum) → put_at s r Nothing ≡ Gives later → A
unfolding put_at define
put_nothing s later (IsSpot p) h = define_in_nothing s later p (slice_get s p.sequence) h
put_nothing s later _ h = absurd (cc)

-- ## What is emitted

record AreTwo (x y : Option Term) : Type 0 where
  one : Term
  other : Term
  one_is : x ≡ Some one
  other_is : y ≡ Some other

two_by : (form : Term → Term → Term) (x y : Option Term) (t : Term) → with_two form x y ≡ Some t → AreTwo x y
unfolding with_two
two_by form (Some a) (Some b) t h = record { one = a; other = b; one_is = refl; other_is = refl }
two_by form (Some a) None t h = absurd (cc)
two_by form None y t h = absurd (cc)

record AreThree (x y z : Option Term) : Type 0 where
  one : Term
  other : Term
  third : Term
  one_is : x ≡ Some one
  other_is : y ≡ Some other
  third_is : z ≡ Some third

three_by : (form : Term → Term → Term → Term) (x y z : Option Term) (t : Term) → with_three form x y z ≡ Some t → AreThree x y z
unfolding with_three
three_by form (Some a) (Some b) (Some d) t h = record { one = a; other = b; third = d; one_is = refl; other_is = refl; third_is = refl }
three_by form (Some a) (Some b) None t h = absurd (cc)
three_by form (Some a) None z t h = absurd (cc)
three_by form None y z t h = absurd (cc)

record AreMore (x : Option Term) (xs : Option (List Term)) : Type 0 where
  first : Term
  later : List Term
  first_is : x ≡ Some first
  later_is : xs ≡ Some later

more_by : (x : Option Term) (xs : Option (List Term)) (ts : List Term) → one_more x xs ≡ Some ts → AreMore x xs
unfolding one_more
more_by (Some a) (Some later) ts h = record { first = a; later = later; first_is = refl; later_is = refl }
more_by (Some a) None ts h = absurd (cc)
more_by None xs ts h = absurd (cc)

record AreApplied (form : List Term → Option Term) (xs : Option (List Term)) (term : Term) : Type 0 where
  terms : List Term
  terms_are : xs ≡ Some terms
  is : form terms ≡ Some term

applied_by : (form : List Term → Option Term) (xs : Option (List Term)) (term : Term) → applied_value form xs ≡ Some term → AreApplied form xs term
unfolding applied_value
applied_by form (Some ts) term h = record { terms = ts; terms_are = refl; is = h }
applied_by form None term h = absurd (cc)

subscripts_by : (w : Writing) (x : Bytes) (array : Bool) (xs : Option (List Term)) (term : Term) → if_number array (element_value w.naming x xs) ≡ Some term → (ts : List Term) × (xs ≡ Some ts)
unfolding if_number element_value
subscripts_by w x true (Some ts) term h = (ts, refl)
subscripts_by w x true None term h = absurd (cc)
subscripts_by w x false xs term h = absurd (cc)

module _ (w : Writing) (f : Frame) (m : Temporaries) (s : Store) (plain : (k : ℕ) (d : Datum) → m k ≡ Some d → IsPlain d) where
  kept_read : (found : Option Datum) (d : Datum) → ((e : Datum) → found ≡ Some e → IsPlain e) → if_kept found ≡ Gives d → IsRead (if_kept (number_kept found)) d
  unfolding if_kept number_kept
  kept_read None d is h = absurd (cc)
  kept_read (Some e) d is h = by e (is e refl) h
    where
      by : (e : Datum) → IsPlain e → Gives e ≡ Gives d → IsRead (if_kept (number_kept (Some e))) d
      by _ (plain_number z) g = the_same g
      by _ (plain_truth b) g = the_same g
      by _ plain_nothing g = no_value (given_same Nothing d g)

  operated_read : (op : Operator) (a d : Datum) (right right' : Checked Datum) → ((b : Datum) → right ≡ Gives b → IsRead right' b) → where_wanted (left_of op a) (given_that right (operated op a)) ≡ Gives d
      → where_wanted (left_of op a) (given_that right' (operated op a)) ≡ Gives d
  unfolding where_wanted given_that
  operated_read op a d right right' read h = by (left_of op a) h
    where
      by : (left : Left) → where_wanted left (given_that right (operated op a)) ≡ Gives d → where_wanted left (given_that right' (operated op a)) ≡ Gives d
      by (Decided e) g = g
      by Wrong g = absurd (cc)
      by Wants g = let found = got right (operated op a) d g in with_right found.value (read found.value found.is) found.gives
        where
          with_right : (b : Datum) → IsRead right' b → operated op a b ≡ Gives d → given_that right' (operated op a) ≡ Gives d
          with_right b (the_same is) g = ap (λ r. given_that r (operated op a)) is ∙ g
          with_right b (no_value is) g = nothing_operated op a d (ap (operated op a) is ∙ g)

  chosen_read : (a d : Datum) (q q' r r' : Checked Datum) → ((e : Datum) → q ≡ Gives e → IsRead q' e) → ((e : Datum) → r ≡ Gives e → IsRead r' e) → chosen a q r ≡ Gives d → IsRead (chosen a q' r') d
  unfolding chosen
  chosen_read (IsLog true) d q q' r r' of_q of_r h = of_q d h
  chosen_read (IsLog false) d q q' r r' of_q of_r h = of_r d h
  chosen_read (IsInt z) d q q' r r' of_q of_r h = absurd (cc)
  chosen_read (IsText cs) d q q' r r' of_q of_r h = absurd (cc)
  chosen_read (IsSpot p) d q q' r r' of_q of_r h = absurd (cc)
  chosen_read (IsProc x) d q q' r r' of_q of_r h = absurd (cc)
  chosen_read (IsLabel l) d q q' r r' of_q of_r h = absurd (cc)
  chosen_read Nothing d q q' r r' of_q of_r h = absurd (cc)

  then_same : {A : Type 0} (r r' : Checked A) (go : A → Checked Datum) (a : A) (d : Datum) → r' ≡ Gives a → go a ≡ Gives d → given_that r' go ≡ Gives d
  unfolding given_that
  then_same r r' go a d is h = ap (λ z. given_that z go) is ∙ h

  element_read : (x : Bytes) (ds : List Datum) (r' : Checked (List Datum)) (d : Datum) → AreRead r' ds → element w.facts f x ds ≡ Gives d → given_that r' (element w.facts f x) ≡ Gives d
  unfolding element given_that
  element_read x ds r' d (all_same is) h = ap (λ z. given_that z (element w.facts f x)) is ∙ h
  element_read x ds r' d (one_lost among) h = let found = got (whole w.facts f x) (element_at x (bounds_of w.facts f x) ds) d h in spot_nothing x (bounds_of w.facts f x) ds found.value d found.gives among

  prefixed_read : (op : Prefix) (a d : Datum) (r' : Checked Datum) → IsRead r' a → prefixed op a ≡ Gives d → IsRead (given_that r' (prefixed op)) d
  unfolding given_that
  prefixed_read op a d r' (the_same is) h = the_same (ap (λ z. given_that z (prefixed op)) is ∙ h)
  prefixed_read op a d r' (no_value is) h = prefixed_nothing op d (ap (prefixed op) is ∙ h)

  both_read : (op : Operator) (a d : Datum) (left' right right' : Checked Datum) → IsRead left' a → ((b : Datum) → right ≡ Gives b → IsRead right' b) → where_wanted (left_of op a) (given_that right (operated op a)) ≡ Gives d
      → IsRead (given_that left' (λ a. where_wanted (left_of op a) (given_that right' (operated op a)))) d
  unfolding given_that
  both_read op a d left' right right' (the_same is) read h = the_same (ap (λ z. given_that z (λ a. where_wanted (left_of op a) (given_that right' (operated op a)))) is ∙ operated_read op a d right right' read h)
  both_read op a d left' right right' (no_value is) read h = left_nothing op d right (ap (λ e. where_wanted (left_of op e) (given_that right (operated op e))) is ∙ h)

  function_read : (function : Function) (terms : List Term) (ds : List Datum) (term : Term) (d : Datum) (r' : Checked (List Datum)) → function_term function terms ≡ Some term → AreRead r' ds → applied function ds ≡ Gives d
      → IsRead (given_that r' (applied function)) d
  unfolding given_that
  function_read function terms ds term d r' is (all_same same) h = the_same (ap (λ z. given_that z (applied function)) same ∙ h)
  function_read function terms ds term d r' is (one_lost among) h = applied_nothing function terms ds term d is h among

  choice_read : (a d : Datum) (p' q q' r r' : Checked Datum) → IsRead p' a → ((e : Datum) → q ≡ Gives e → IsRead q' e) → ((e : Datum) → r ≡ Gives e → IsRead r' e) → chosen a q r ≡ Gives d → IsRead (given_that p' (λ a. chosen a q' r')) d
  unfolding given_that
  choice_read a d p' q q' r r' (the_same is) of_q of_r h = subst (λ z. IsRead (given_that z (λ a. chosen a q' r')) d) (sym is) (chosen_read a d q q' r r' of_q of_r h)
  choice_read a d p' q q' r r' (no_value is) of_q of_r h = chosen_nothing q r d (ap (λ e. chosen e q r) is ∙ h)

  list_read : (d : Datum) (ds : List Datum) (r' : Checked Datum) (rs' : Checked (List Datum)) → IsRead r' d → AreRead rs' ds → AreRead (given_that r' (λ d. given_that rs' (λ later. Gives (d ∷ later)))) (d ∷ ds)
  unfolding given_that
  list_read d ds r' rs' (the_same is) (all_same same) = all_same (λ i. given_that (is i) (λ d. given_that (same i) (λ later. Gives (d ∷ later))))
  list_read d ds r' rs' (the_same is) (one_lost among) = one_lost (later_in among)
  list_read d ds r' rs' (no_value is) read = one_lost (subst (λ e. IsIn Nothing (e ∷ ds)) is first_in)

  mutual
    unfolding value_term place_term value_terms meant all_meant

    -- a place is the same
    pub place_read : (p : Pure) (term : Term) (d : Datum) → place_term w p ≡ Some term → meant w.facts f m s p ≡ Gives d → meant w.facts f (numbers_kept m) s p ≡ Gives d
    place_read (Name x) term d emitted h = h
    place_read (ElementOf x ps) term d emitted h =
        let ts = subscripts_by w x (is_array w x) (value_terms w ps) term emitted in
        let g = got (all_meant w.facts f m s ps) (element w.facts f x) d h in
        element_read x g.value (all_meant w.facts f (numbers_kept m) s ps) d (values_read ps ts.0 g.value ts.1 g.is) g.gives
    place_read (Constant e) term d emitted h = absurd (cc)
    place_read (Temporary k) term d emitted h = absurd (cc)
    place_read (Load p) term d emitted h = absurd (cc)
    place_read (AllOf x) term d emitted h = absurd (cc)
    place_read (FirstOf p) term d emitted h = absurd (cc)
    place_read (Substring x p a b) term d emitted h = absurd (cc)
    place_read (Concatenated ps) term d emitted h = absurd (cc)
    place_read (Prefixed op p) term d emitted h = absurd (cc)
    place_read (Operated op p q) term d emitted h = absurd (cc)
    place_read (Applied function ps) term d emitted h = absurd (cc)
    place_read (Chosen p q r) term d emitted h = absurd (cc)

    pub value_read : (p : Pure) (term : Term) (d : Datum) → value_term w p ≡ Some term → meant w.facts f m s p ≡ Gives d → IsRead (meant w.facts f (numbers_kept m) s p) d
    value_read (Constant e) term d emitted h = the_same h
    value_read (Temporary k) term d emitted h = kept_read (m k) d (plain k) h
    value_read (Load p) term d emitted h =
        let g = got (meant w.facts f m s p) (fetched s) d h in
        the_same (then_same (meant w.facts f m s p) (meant w.facts f (numbers_kept m) s p) (fetched s) g.value d (place_read p term g.value emitted g.is) g.gives)
    value_read (Prefixed op p) term d emitted h =
        let e = mapped_by (c.Prefixed (prefix_for op)) (value_term w p) term emitted in
        let g = got (meant w.facts f m s p) (prefixed op) d h in
        prefixed_read op g.value d (meant w.facts f (numbers_kept m) s p) (value_read p e.one g.value e.one_is g.is) g.gives
    value_read (Operated op p q) term d emitted h =
        let e = two_by (c.Between (operator_for op)) (value_term w p) (value_term w q) term emitted in
        let g = got (meant w.facts f m s p) (λ a. where_wanted (left_of op a) (given_that (meant w.facts f m s q) (operated op a))) d h in
        both_read op g.value d (meant w.facts f (numbers_kept m) s p) (meant w.facts f m s q) (meant w.facts f (numbers_kept m) s q) (value_read p e.one g.value e.one_is g.is) (λ b is. value_read q e.other b e.other_is is) g.gives
    value_read (Applied function ps) term d emitted h =
        let e = applied_by (function_term function) (value_terms w ps) term emitted in
        let g = got (all_meant w.facts f m s ps) (applied function) d h in
        function_read function e.terms g.value term d (all_meant w.facts f (numbers_kept m) s ps) e.is (values_read ps e.terms g.value e.terms_are g.is) g.gives
    value_read (Chosen p q r) term d emitted h =
        let e = three_by c.Choice (value_term w p) (value_term w q) (value_term w r) term emitted in
        let g = got (meant w.facts f m s p) (λ a. chosen a (meant w.facts f m s q) (meant w.facts f m s r)) d h in
        choice_read g.value d (meant w.facts f (numbers_kept m) s p) (meant w.facts f m s q) (meant w.facts f (numbers_kept m) s q) (meant w.facts f m s r) (meant w.facts f (numbers_kept m) s r)
        (value_read p e.one g.value e.one_is g.is) (λ b is. value_read q e.other b e.other_is is) (λ b is. value_read r e.third b e.third_is is) g.gives
    value_read (Name x) term d emitted h = absurd (cc)
    value_read (AllOf x) term d emitted h = absurd (cc)
    value_read (ElementOf x ps) term d emitted h = absurd (cc)
    value_read (FirstOf p) term d emitted h = absurd (cc)
    value_read (Substring x p a b) term d emitted h = absurd (cc)
    value_read (Concatenated ps) term d emitted h = absurd (cc)

    values_read : (ps : Pures) (terms : List Term) (ds : List Datum) → value_terms w ps ≡ Some terms → all_meant w.facts f m s ps ≡ Gives ds → AreRead (all_meant w.facts f (numbers_kept m) s ps) ds
    values_read NoPure terms ds emitted h = all_same h
    values_read (AndPure p ps) terms ds emitted h =
        let e = more_by (value_term w p) (value_terms w ps) terms emitted in
        let g = got (meant w.facts f m s p) (λ d. given_that (all_meant w.facts f m s ps) (λ later. Gives (d ∷ later))) ds h in
        let rest = got (all_meant w.facts f m s ps) (λ later. Gives (g.value ∷ later)) ds g.gives in
        subst (AreRead (given_that (meant w.facts f (numbers_kept m) s p) (λ d. given_that (all_meant w.facts f (numbers_kept m) s ps) (λ later. Gives (d ∷ later))))) (given_same (g.value ∷ rest.value) ds rest.gives)
        (list_read g.value rest.value (meant w.facts f (numbers_kept m) s p) (all_meant w.facts f (numbers_kept m) s ps) (value_read p e.first g.value e.first_is g.is) (values_read ps e.later rest.value e.later_is rest.is))

  -- what holds a value
  pub held_read : (p : Pure) (term : Term) (d : Datum) → held_term w p ≡ Some term → meant w.facts f m s p ≡ Gives d → IsRead (meant w.facts f (numbers_kept m) s p) d
  unfolding held_term meant
  held_read (Constant e) term d emitted h = the_same h
  held_read (Temporary k) term d emitted h = kept_read (m k) d (plain k) h
  held_read (Load p) term d emitted h =
      let g = got (meant w.facts f m s p) (fetched s) d h in
      the_same (then_same (meant w.facts f m s p) (meant w.facts f (numbers_kept m) s p) (fetched s) g.value d (place_read p term g.value emitted g.is) g.gives)
  held_read (Name x) term d emitted h = absurd (cc)
  held_read (AllOf x) term d emitted h = absurd (cc)
  held_read (ElementOf x ps) term d emitted h = absurd (cc)
  held_read (FirstOf p) term d emitted h = absurd (cc)
  held_read (Substring x p a b) term d emitted h = absurd (cc)
  held_read (Concatenated ps) term d emitted h = absurd (cc)
  held_read (Prefixed op p) term d emitted h = absurd (cc)
  held_read (Operated op p q) term d emitted h = absurd (cc)
  held_read (Applied function ps) term d emitted h = absurd (cc)
  held_read (Chosen p q r) term d emitted h = absurd (cc)

  -- integers that are held, one after the other
  integers_before : (r : Checked Datum) (rs : Checked (List Datum)) (ds : List Datum) (d : Datum) (later : List Datum) → d ∷ later ≡ ds → AreIntegers ds → IsRead r d → (AreIntegers later → rs ≡ Gives later)
      → given_that r (λ e. given_that rs (λ es. Gives (e ∷ es))) ≡ Gives ds
  unfolding given_that
  integers_before r rs _ d later same (more_integers z ds are) read others =
      let first : d ≡ IsInt z = cc in
      let rest : later ≡ ds = cc in
      ap (λ x. given_that x (λ e. given_that rs (λ es. Gives (e ∷ es)))) (integer_read r z (subst (IsRead r) first read))
      ∙ ap (λ x. given_that x (λ es. Gives (IsInt z ∷ es))) (others (subst AreIntegers (sym rest) are) ∙ ap Gives rest)
  integers_before r rs [] d later same are read others = absurd (cc)

  pub integers_held : (ps : Pures) (terms : List Term) (ds : List Datum) → AreIntegers ds → held_terms w ps ≡ Some terms → all_meant w.facts f m s ps ≡ Gives ds → all_meant w.facts f (numbers_kept m) s ps ≡ Gives ds
  unfolding held_terms all_meant
  integers_held NoPure terms ds are emitted h = h
  integers_held (AndPure p ps) terms ds are emitted h =
      let e = more_by (held_term w p) (held_terms w ps) terms emitted in
      let g = got (meant w.facts f m s p) (λ d. given_that (all_meant w.facts f m s ps) (λ later. Gives (d ∷ later))) ds h in
      let rest = got (all_meant w.facts f m s ps) (λ later. Gives (g.value ∷ later)) ds g.gives in
      integers_before (meant w.facts f (numbers_kept m) s p) (all_meant w.facts f (numbers_kept m) s ps) ds g.value rest.value (given_same (g.value ∷ rest.value) ds rest.gives) are (held_read p e.first g.value e.first_is g.is)
      (λ later. integers_held ps e.later rest.value later e.later_is rest.is)

-- ## What is a number

pub typed_plain : (b : Basic) (d : Datum) → HasType b d → IsPlain d
typed_plain basic.Integer (IsInt z) typed = plain_number z
typed_plain basic.Logical (IsLog b) typed = plain_truth b
typed_plain _ _ typed = absurd typed

nothing_typed : {A : Type 0} (b : Basic) (d : Datum) → Nothing ≡ d → HasType b d → A
nothing_typed b d is typed = by b (subst (HasType b) (sym is) typed)
  where
    by : {A : Type 0} (b : Basic) → HasType b Nothing → A
    by basic.Integer none = absurd none
    by basic.Logical none = absurd none
    by basic.Character none = absurd none
    by basic.Untyped none = absurd none

-- what is of a type is the same
pub typed_read : (r : Checked Datum) (b : Basic) (d : Datum) → HasType b d → IsRead r d → r ≡ Gives d
typed_read r b d typed (the_same is) = is
typed_read r b d typed (no_value is) = nothing_typed b d is typed

pub truth_read : (r : Checked Datum) (b : Bool) → IsRead r (IsLog b) → r ≡ Gives (IsLog b)
truth_read r b (the_same is) = is
truth_read r b (no_value is) = absurd (cc)
