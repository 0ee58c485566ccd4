-- The names in the C expressions of values and places.
use Rattle.std.specs.Prelude.{◌≡◌, ℕ, zero, suc, ◌+◌, ◌/◌, nat_eq, ℤ, pos, negsuc, Bool, true, false, List, [], ◌∷◌, ◌++◌, Option, Some, None, option_map, if◌then◌else◌}
use Rattle.std.proofs.Common.{refl, sym, subst}
use Rattle.c_emit.specs.f_tree.Values as fortran
use Rattle.c_emit.specs.f_tree.Values.{Bytes, Datum, IsInt, IsLog, IsText, IsSpot, in_range}
use Rattle.c_emit.specs.f_tree.Terms as terms
use Rattle.c_emit.specs.l_core.Pures.{Pure, Constant, Temporary, Load, Name, AllOf, ElementOf, FirstOf, Substring, Prefixed, Operated, Applied, Chosen, Concatenated, Pures, NoPure, AndPure}
use Rattle.c_structure_laws.specs.c_tree.declared.expression.BinaryOp.{BinaryOp}
use Rattle.c_structure_laws.specs.c_tree.declared.expression.BinaryOp.TheVariants as op
use Rattle.c_structure_laws.specs.c_tree.declared.expression.UnaryOp.TheVariants as prefix
use Rattle.c_structure_laws.specs.c_tree.declared.expression.Extreme.{Extreme}
use Rattle.c_structure_laws.specs.c_tree.declared.expression.Extreme.TheVariants as extreme
use Rattle.c_structure_laws.specs.c_tree.Access.{ToNumber, ToPointer}
use Rattle.c_structure_laws.specs.c_tree.Terms as c
use Rattle.c_structure_laws.specs.c_tree.Terms.{Term}
use Rattle.c_structure_laws.specs.c_tree.Drafts.{Scope}
use Rattle.c_emit.specs.c_image.Addresses.{Address, Alone, Inside, InTexts, Through, number_term, element_term}
use Rattle.c_emit.specs.c_image.Elements.{Step, sum_term, difference_term, product_term, quantity_term, index_term}
use Rattle.c_emit.specs.c_image.Operations.{constant_term, negative_term, prefix_for, operator_for, extreme_term, function_term}
use Rattle.c_structure_laws.specs.c_structure.Expressions.{Names, strings_in}
use Rattle.c_emit.specs.Numbers.{Writing, is_scalar, is_array, constant_value, with_two, with_three, one_more, steps_from, element_value, applied_value, if_number, value_term, place_term, value_terms}
use Rattle.emitted_names.specs.KnownNames.{IsPlain, array_of, StartIsPlain, IsKnownBy}

pub some_same : {A : Type 0} (a b : A) → Some a ≡ Some b → a ≡ b
some_same a b h = cc

pub data ArePlain (scope : Scope) (names : Names) : List Term → Type 0 where
  no_terms : ArePlain scope names []
  and_term : {t : Term} {ts : List Term} → IsPlain scope names t → ArePlain scope names ts → ArePlain scope names (t ∷ ts)

both_empty : (xs ys : List ℕ) → xs ≡ [] → ys ≡ [] → xs ++ ys ≡ []
both_empty xs ys one other = subst (λ zs. zs ++ ys ≡ []) (sym one) other

module _ (scope : Scope) (names : Names) where
  constant_plain : (z : ℤ) → IsPlain scope names (c.Constant z)
  unfolding strings_in
  constant_plain z = record { knows = tt; no_strings = refl }

  pub prefixed_plain : (o : _) (t : Term) → IsPlain scope names t → IsPlain scope names (c.Prefixed o t)
  unfolding strings_in
  prefixed_plain o t is = record { knows = is.knows; no_strings = is.no_strings }

  pub cast_plain : (type : _) (t : Term) → IsPlain scope names t → IsPlain scope names (c.Cast type t)
  unfolding strings_in
  cast_plain type t is = record { knows = is.knows; no_strings = is.no_strings }

  between_plain : (o : BinaryOp) (t u : Term) → IsPlain scope names t → IsPlain scope names u → IsPlain scope names (c.Between o t u)
  unfolding strings_in
  between_plain o t u one other = record { knows = (one.knows, other.knows); no_strings = both_empty (strings_in names t) (strings_in names u) one.no_strings other.no_strings }

  element_plain : (t u : Term) → IsPlain scope names t → IsPlain scope names u → IsPlain scope names (c.Element t u)
  unfolding strings_in
  element_plain t u one other = record { knows = (one.knows, other.knows); no_strings = both_empty (strings_in names t) (strings_in names u) one.no_strings other.no_strings }

  most_plain : (which : Extreme) (t u : Term) → IsPlain scope names t → IsPlain scope names u → IsPlain scope names (c.Most which t u)
  unfolding strings_in
  most_plain which t u one other = record { knows = (one.knows, other.knows); no_strings = both_empty (strings_in names t) (strings_in names u) one.no_strings other.no_strings }

  choice_plain : (t u v : Term) → IsPlain scope names t → IsPlain scope names u → IsPlain scope names v → IsPlain scope names (c.Choice t u v)
  unfolding strings_in
  choice_plain t u v one other third = record {
    knows = (one.knows, other.knows, third.knows);
    no_strings = both_empty (strings_in names t) (strings_in names u ++ strings_in names v) one.no_strings (both_empty (strings_in names u) (strings_in names v) other.no_strings third.no_strings);
  }

  magnitude_plain : (t : Term) → IsPlain scope names t → IsPlain scope names (c.Magnitude t)
  unfolding strings_in
  magnitude_plain t is = record { knows = is.knows; no_strings = is.no_strings }

  -- ## Numbers and subscripts

  negative_plain : (less : ℕ) → IsPlain scope names (negative_term less)
  negative_plain less = by (nat_eq less 2147483647)
    where
      by : (b : Bool) → IsPlain scope names (if b then c.Between op.Subtract (c.Prefixed prefix.Minus (c.Constant (pos 2147483647))) (c.Constant (pos 1)) else c.Prefixed prefix.Minus (c.Constant (pos (suc less))))
      by true = between_plain op.Subtract (c.Prefixed prefix.Minus (c.Constant (pos 2147483647))) (c.Constant (pos 1)) (prefixed_plain prefix.Minus (c.Constant (pos 2147483647)) (constant_plain (pos 2147483647))) (constant_plain (pos 1))
      by false = prefixed_plain prefix.Minus (c.Constant (pos (suc less))) (constant_plain (pos (suc less)))

  pub number_plain : (z : ℤ) → IsPlain scope names (constant_term z)
  number_plain (pos n) = constant_plain (pos n)
  number_plain (negsuc less) = negative_plain less

  sum_plain : (left right : Term) → IsPlain scope names left → IsPlain scope names right → IsPlain scope names (sum_term left right)
  sum_plain (c.Constant (pos m)) (c.Constant (pos n)) one other = constant_plain (pos (m + n))
  sum_plain (c.Constant (pos zero)) right one other = other
  sum_plain left (c.Constant (pos zero)) one other = one
  sum_plain left right one other = between_plain op.Add left right one other

  difference_plain : (left right : Term) → IsPlain scope names left → IsPlain scope names right → IsPlain scope names (difference_term left right)
  difference_plain left (c.Constant (pos zero)) one other = one
  difference_plain left right one other = between_plain op.Subtract left right one other

  product_plain : (left right : Term) → IsPlain scope names left → IsPlain scope names right → IsPlain scope names (product_term left right)
  product_plain left (c.Constant (pos (suc zero))) one other = one
  product_plain left right one other = between_plain op.Multiply left right one other

  record StepIsPlain (step : Step) : Type 0 where
    distance : IsPlain scope names step.distance
    size : IsPlain scope names step.size

  data StepsArePlain : List Step → Type 0 where
    no_steps : StepsArePlain []
    and_step : {step : Step} {steps : List Step} → StepIsPlain step → StepsArePlain steps → StepsArePlain (step ∷ steps)

  index_plain : (steps : List Step) → StepsArePlain steps → IsPlain scope names (index_term steps)
  index_plain [] are = constant_plain (pos 0)
  index_plain (last ∷ []) (and_step is are) = is.distance
  index_plain (step ∷ next ∷ later) (and_step is are) =
      sum_plain (product_term (index_term (next ∷ later)) step.size) step.distance (product_plain (index_term (next ∷ later)) step.size (index_plain (next ∷ later) are) is.size) is.distance

  extreme_plain : (which : Extreme) (best : Term) (ts : List Term) → IsPlain scope names best → ArePlain scope names ts → IsPlain scope names (extreme_term which best ts)
  extreme_plain which best [] is are = is
  extreme_plain which best (t ∷ ts) is (and_term one are) = extreme_plain which (c.Most which best t) ts (most_plain which best t is one) are

  unknown_plain : IsPlain scope names c.Unknown
  unfolding strings_in
  unknown_plain = record { knows = tt; no_strings = refl }

  place_plain : (address : Address) (index : Term) → StartIsPlain scope names (array_of address) → IsPlain scope names index → IsPlain scope names (element_term address index)
  place_plain (Alone object) index start is = element_plain (c.Array object ToNumber) index start is
  place_plain (Inside object before) index start is =
      element_plain (c.Array object ToNumber) (sum_term index (c.Constant (pos (before / 4)))) start (sum_plain index (c.Constant (pos (before / 4))) is (constant_plain (pos (before / 4))))
  place_plain (InTexts object before) index start is = unknown_plain
  place_plain (Through parameter) index start is = element_plain (c.Variable parameter (ToPointer ToNumber)) index start is

  -- ## Choices of the definitions

  mapped_plain : (form : Term → Term) (x : Option Term) (term : Term) → option_map form x ≡ Some term → ((t : Term) → x ≡ Some t → IsPlain scope names t) → ((t : Term) → IsPlain scope names t → IsPlain scope names (form t))
      → IsPlain scope names term
  mapped_plain form (Some t) term h one made = subst (IsPlain scope names) (some_same (form t) term h) (made t (one t refl))
  mapped_plain form None term h one made = absurd (cc)

  two_plain : (form : Term → Term → Term) (x y : Option Term) (term : Term) → with_two form x y ≡ Some term → ((t : Term) → x ≡ Some t → IsPlain scope names t) → ((t : Term) → y ≡ Some t → IsPlain scope names t)
      → ((t u : Term) → IsPlain scope names t → IsPlain scope names u → IsPlain scope names (form t u)) → IsPlain scope names term
  unfolding with_two
  two_plain form (Some t) (Some u) term h one other made = subst (IsPlain scope names) (some_same (form t u) term h) (made t u (one t refl) (other u refl))
  two_plain form (Some t) None term h one other made = absurd (cc)
  two_plain form None y term h one other made = absurd (cc)

  three_plain : (form : Term → Term → Term → Term) (x y z : Option Term) (term : Term) → with_three form x y z ≡ Some term → ((t : Term) → x ≡ Some t → IsPlain scope names t) → ((t : Term) → y ≡ Some t → IsPlain scope names t)
      → ((t : Term) → z ≡ Some t → IsPlain scope names t) → ((t u v : Term) → IsPlain scope names t → IsPlain scope names u → IsPlain scope names v → IsPlain scope names (form t u v)) → IsPlain scope names term
  unfolding with_three
  three_plain form (Some t) (Some u) (Some v) term h one other third made = subst (IsPlain scope names) (some_same (form t u v) term h) (made t u v (one t refl) (other u refl) (third v refl))
  three_plain form (Some t) (Some u) None term h one other third made = absurd (cc)
  three_plain form (Some t) None z term h one other third made = absurd (cc)
  three_plain form None y z term h one other third made = absurd (cc)

  more_plain : (x : Option Term) (xs : Option (List Term)) (ts : List Term) → one_more x xs ≡ Some ts → ((t : Term) → x ≡ Some t → IsPlain scope names t) → ((us : List Term) → xs ≡ Some us → ArePlain scope names us)
      → ArePlain scope names ts
  unfolding one_more
  more_plain (Some t) (Some us) ts h one others = subst (ArePlain scope names) (some_same (t ∷ us) ts h) (and_term (one t refl) (others us refl))
  more_plain (Some t) None ts h one others = absurd (cc)
  more_plain None xs ts h one others = absurd (cc)

  pub held_plain : (holds : Bool) (t term : Term) → if_number holds (Some t) ≡ Some term → (holds ≡ true → IsPlain scope names t) → IsPlain scope names term
  unfolding if_number
  held_plain true t term h one = subst (IsPlain scope names) (some_same t term h) (one refl)
  held_plain false t term h one = absurd (cc)

  pub if_plain : (holds : Bool) (x : Option Term) (term : Term) → if_number holds x ≡ Some term → (holds ≡ true → x ≡ Some term → IsPlain scope names term) → IsPlain scope names term
  unfolding if_number
  if_plain true x term h one = one refl h
  if_plain false x term h one = absurd (cc)

  pub datum_plain : (d : Datum) (term : Term) → constant_value d ≡ Some term → IsPlain scope names term
  unfolding constant_value
  datum_plain (IsInt z) term h = by (in_range z) h
    where
      by : (b : Bool) → (if b then Some (constant_term z) else None) ≡ Some term → IsPlain scope names term
      by true g = subst (IsPlain scope names) (some_same (constant_term z) term g) (number_plain z)
      by false g = absurd (cc)
  datum_plain (IsLog true) term h = subst (IsPlain scope names) (some_same (c.Constant (pos 1)) term h) (constant_plain (pos 1))
  datum_plain (IsLog false) term h = subst (IsPlain scope names) (some_same (c.Constant (pos 0)) term h) (constant_plain (pos 0))
  datum_plain (IsText cs) term h = absurd (cc)
  datum_plain (IsSpot p) term h = absurd (cc)
  datum_plain (fortran.IsProc x) term h = absurd (cc)
  datum_plain (fortran.IsLabel l) term h = absurd (cc)
  datum_plain fortran.Nothing term h = absurd (cc)

  applied_by : (f : terms.Function) (ts : List Term) (term : Term) → function_term f ts ≡ Some term → ArePlain scope names ts → IsPlain scope names term
  applied_by terms.Truncation (a ∷ []) term h (and_term one rest) = subst (IsPlain scope names) (some_same a term h) one
  applied_by terms.Magnitude (a ∷ []) term h (and_term one rest) = subst (IsPlain scope names) (some_same (c.Magnitude a) term h) (magnitude_plain a one)
  applied_by terms.Remainder (a ∷ b ∷ []) term h (and_term one (and_term other rest)) = subst (IsPlain scope names) (some_same (c.Between op.Remainder a b) term h) (between_plain op.Remainder a b one other)
  applied_by terms.Largest (a ∷ later) term h (and_term one rest) = subst (IsPlain scope names) (some_same (extreme_term extreme.Max a later) term h) (extreme_plain extreme.Max a later one rest)
  applied_by terms.Smallest (a ∷ later) term h (and_term one rest) = subst (IsPlain scope names) (some_same (extreme_term extreme.Min a later) term h) (extreme_plain extreme.Min a later one rest)
  applied_by f ts term h are = absurd (cc)

  applied_plain : (f : terms.Function) (xs : Option (List Term)) (term : Term) → applied_value (function_term f) xs ≡ Some term → ((ts : List Term) → xs ≡ Some ts → ArePlain scope names ts) → IsPlain scope names term
  unfolding applied_value
  applied_plain f (Some ts) term h are = applied_by f ts term h (are ts refl)
  applied_plain f None term h are = absurd (cc)

  module _ (w : Writing) (known : IsKnownBy scope names w) where
    steps_plain : (x : Bytes) (k : ℕ) (ts : List Term) → is_array w x ≡ true → ArePlain scope names ts → StepsArePlain (steps_from w.naming x k ts)
    unfolding steps_from
    steps_plain x k [] holds are = no_steps
    steps_plain x k (t ∷ ts) holds (and_term one rest) =
        and_step (record { distance = difference_plain t (quantity_term (w.naming.lower x k)) one (known.lowers x k holds); size = known.sizes x k holds }) (steps_plain x (suc k) ts holds rest)

    element_value_plain : (x : Bytes) (xs : Option (List Term)) (term : Term) → is_array w x ≡ true → element_value w.naming x xs ≡ Some term → ((ts : List Term) → xs ≡ Some ts → ArePlain scope names ts) → IsPlain scope names term
    unfolding element_value
    element_value_plain x (Some ts) term holds h are =
        subst (IsPlain scope names) (some_same (element_term (w.naming.address x) (index_term (steps_from w.naming x 0 ts))) term h)
        (place_plain (w.naming.address x) (index_term (steps_from w.naming x 0 ts)) (known.arrays x holds) (index_plain (steps_from w.naming x 0 ts) (steps_plain x 0 ts holds (are ts refl))))
    element_value_plain x None term holds h are = absurd (cc)

    mutual
      unfolding value_term place_term value_terms

      pub value_plain : (p : Pure) (term : Term) → value_term w p ≡ Some term → IsPlain scope names term
      value_plain (Constant d) term h = datum_plain d term h
      value_plain (Temporary k) term h = held_plain (w.is_number k) (c.Variable (w.naming.temporary k) ToNumber) term h (known.temporaries k)
      value_plain (Load p) term h = target_plain p term h
      value_plain (Prefixed o p) term h = mapped_plain (c.Prefixed (prefix_for o)) (value_term w p) term h (value_plain p) (λ t is. prefixed_plain (prefix_for o) t is)
      value_plain (Operated o p q) term h = two_plain (c.Between (operator_for o)) (value_term w p) (value_term w q) term h (value_plain p) (value_plain q) (λ t u one other. between_plain (operator_for o) t u one other)
      value_plain (Applied f ps) term h = applied_plain f (value_terms w ps) term h (values_plain ps)
      value_plain (Chosen p q r) term h = three_plain c.Choice (value_term w p) (value_term w q) (value_term w r) term h (value_plain p) (value_plain q) (value_plain r) (λ t u v one other third. choice_plain t u v one other third)
      value_plain (Name x) term h = absurd (cc)
      value_plain (AllOf x) term h = absurd (cc)
      value_plain (ElementOf x ps) term h = absurd (cc)
      value_plain (FirstOf p) term h = absurd (cc)
      value_plain (Substring x p from to) term h = absurd (cc)
      value_plain (Concatenated ps) term h = absurd (cc)

      pub target_plain : (p : Pure) (term : Term) → place_term w p ≡ Some term → IsPlain scope names term
      target_plain (Name x) term h = held_plain (is_scalar w x) (number_term (w.naming.address x)) term h (known.scalars x)
      target_plain (ElementOf x ps) term h = if_plain (is_array w x) (element_value w.naming x (value_terms w ps)) term h (λ holds is. element_value_plain x (value_terms w ps) term holds is (values_plain ps))
      target_plain (Constant d) term h = absurd (cc)
      target_plain (Temporary k) term h = absurd (cc)
      target_plain (Load p) term h = absurd (cc)
      target_plain (Prefixed o p) term h = absurd (cc)
      target_plain (Operated o p q) term h = absurd (cc)
      target_plain (Applied f ps) term h = absurd (cc)
      target_plain (Chosen p q r) term h = absurd (cc)
      target_plain (AllOf x) term h = absurd (cc)
      target_plain (FirstOf p) term h = absurd (cc)
      target_plain (Substring x p from to) term h = absurd (cc)
      target_plain (Concatenated ps) term h = absurd (cc)

      pub values_plain : (ps : Pures) (ts : List Term) → value_terms w ps ≡ Some ts → ArePlain scope names ts
      values_plain NoPure ts h = subst (ArePlain scope names) (some_same [] ts h) no_terms
      values_plain (AndPure p ps) ts h = more_plain (value_term w p) (value_terms w ps) ts h (value_plain p) (values_plain ps)
