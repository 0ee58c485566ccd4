-- The C expressions of values and places take no fields of lists.
use Rattle.std.specs.Prelude.{◌≡◌, ℕ, zero, suc, ◌+◌, ◌/◌, nat_eq, ℤ, pos, negsuc, Bool, true, false, List, [], ◌∷◌, Option, Some, None, option_map, if◌then◌else◌}
use Rattle.std.proofs.Common.{refl, subst}
use Rattle.main_translation_laws.specs.f_tree.Values as fortran
use Rattle.main_translation_laws.specs.f_tree.Values.{Bytes, Datum, IsInt, IsLog, IsText, IsSpot, in_range}
use Rattle.main_translation_laws.specs.f_tree.Terms as terms
use Rattle.main_translation_laws.specs.l_core.Pures.{Pure, Constant, Temporary, Load, Name, AllOf, ElementOf, FirstOf, Substring, Prefixed, Operated, Applied, Chosen, Concatenated, Pures, NoPure, AndPure}
use Rattle.main_translation_laws.specs.c_tree.declared.expression.BinaryOp.{BinaryOp}
use Rattle.main_translation_laws.specs.c_tree.declared.expression.BinaryOp.TheVariants as op
use Rattle.main_translation_laws.specs.c_tree.declared.expression.UnaryOp.{UnaryOp}
use Rattle.main_translation_laws.specs.c_tree.declared.expression.UnaryOp.TheVariants as prefix
use Rattle.main_translation_laws.specs.c_tree.declared.expression.Extreme.{Extreme}
use Rattle.main_translation_laws.specs.c_tree.declared.expression.Extreme.TheVariants as extreme
use Rattle.main_translation_laws.specs.c_tree.Access.{ToNumber, ToPointer}
use Rattle.main_translation_laws.specs.c_tree.Terms as c
use Rattle.main_translation_laws.specs.c_tree.Terms.{Term}
use Rattle.main_translation_laws.specs.c_image.Addresses.{Address, Alone, Inside, InTexts, Through, number_term, element_term}
use Rattle.main_translation_laws.specs.c_image.Elements.{Quantity, Written, Saved, Step, sum_term, difference_term, product_term, quantity_term, index_term}
use Rattle.main_translation_laws.specs.c_image.Operations.{constant_term, negative_term, prefix_for, operator_for, extreme_term, function_term}
use Rattle.main_translation_laws.specs.c_emit.Numbers.{Writing, is_scalar, is_array, constant_value, with_two, with_three, one_more, steps_from, element_value, applied_value, if_number, value_term, place_term, value_terms}
use Rattle.main_translation_laws.proofs.linking_laws.Places.{some_same}
use Rattle.main_file_texts.specs.WellFormedMains.{HasNoField, HaveNoField, no_terms, and_term}

constant_fieldless : (z : ℤ) → HasNoField (c.Constant z)
constant_fieldless z = tt

prefixed_fieldless : (o : UnaryOp) (t : Term) → HasNoField t → HasNoField (c.Prefixed o t)
prefixed_fieldless o t is = is

between_fieldless : (o : BinaryOp) (t u : Term) → HasNoField t → HasNoField u → HasNoField (c.Between o t u)
between_fieldless o t u one other = (one, other)

element_fieldless : (t u : Term) → HasNoField t → HasNoField u → HasNoField (c.Element t u)
element_fieldless t u one other = (one, other)

most_fieldless : (which : Extreme) (t u : Term) → HasNoField t → HasNoField u → HasNoField (c.Most which t u)
most_fieldless which t u one other = (one, other)

choice_fieldless : (t u v : Term) → HasNoField t → HasNoField u → HasNoField v → HasNoField (c.Choice t u v)
choice_fieldless t u v one other third = (one, other, third)

magnitude_fieldless : (t : Term) → HasNoField t → HasNoField (c.Magnitude t)
magnitude_fieldless t is = is

-- ## Numbers and subscripts

negative_fieldless : (less : ℕ) → HasNoField (negative_term less)
negative_fieldless less = by (nat_eq less 2147483647)
  where
    by : (b : Bool) → HasNoField (if b then c.Between op.Subtract (c.Prefixed prefix.Minus (c.Constant (pos 2147483647))) (c.Constant (pos 1)) else c.Prefixed prefix.Minus (c.Constant (pos (suc less))))
    by true = between_fieldless op.Subtract (c.Prefixed prefix.Minus (c.Constant (pos 2147483647))) (c.Constant (pos 1)) (prefixed_fieldless prefix.Minus (c.Constant (pos 2147483647)) (constant_fieldless (pos 2147483647))) (constant_fieldless (pos 1))
    by false = prefixed_fieldless prefix.Minus (c.Constant (pos (suc less))) (constant_fieldless (pos (suc less)))

pub number_fieldless : (z : ℤ) → HasNoField (constant_term z)
number_fieldless (pos n) = constant_fieldless (pos n)
number_fieldless (negsuc less) = negative_fieldless less

sum_fieldless : (left right : Term) → HasNoField left → HasNoField right → HasNoField (sum_term left right)
sum_fieldless (c.Constant (pos m)) (c.Constant (pos n)) one other = constant_fieldless (pos (m + n))
sum_fieldless (c.Constant (pos zero)) right one other = other
sum_fieldless left (c.Constant (pos zero)) one other = one
sum_fieldless left right one other = between_fieldless op.Add left right one other

difference_fieldless : (left right : Term) → HasNoField left → HasNoField right → HasNoField (difference_term left right)
difference_fieldless left (c.Constant (pos zero)) one other = one
difference_fieldless left right one other = between_fieldless op.Subtract left right one other

product_fieldless : (left right : Term) → HasNoField left → HasNoField right → HasNoField (product_term left right)
product_fieldless left (c.Constant (pos (suc zero))) one other = one
product_fieldless left right one other = between_fieldless op.Multiply left right one other

record StepHasNoField (step : Step) : Type 0 where
  distance : HasNoField step.distance
  size : HasNoField step.size

data StepsHaveNoField : List Step → Type 0 where
  no_steps : StepsHaveNoField []
  and_step : {step : Step} {steps : List Step} → StepHasNoField step → StepsHaveNoField steps → StepsHaveNoField (step ∷ steps)

index_fieldless : (steps : List Step) → StepsHaveNoField steps → HasNoField (index_term steps)
index_fieldless [] are = constant_fieldless (pos 0)
index_fieldless (last ∷ []) (and_step is are) = is.distance
index_fieldless (step ∷ next ∷ later) (and_step is are) =
    sum_fieldless (product_term (index_term (next ∷ later)) step.size) step.distance (product_fieldless (index_term (next ∷ later)) step.size (index_fieldless (next ∷ later) are) is.size) is.distance

extreme_fieldless : (which : Extreme) (best : Term) (ts : List Term) → HasNoField best → HaveNoField ts → HasNoField (extreme_term which best ts)
extreme_fieldless which best [] is are = is
extreme_fieldless which best (t ∷ ts) is (and_term one are) = extreme_fieldless which (c.Most which best t) ts (most_fieldless which best t is one) are

unknown_fieldless : HasNoField c.Unknown
unknown_fieldless = tt

place_fieldless : (address : Address) (index : Term) → HasNoField index → HasNoField (element_term address index)
place_fieldless (Alone object) index is = element_fieldless (c.Array object ToNumber) index tt is
place_fieldless (Inside object before) index is =
    element_fieldless (c.Array object ToNumber) (sum_term index (c.Constant (pos (before / 4)))) tt (sum_fieldless index (c.Constant (pos (before / 4))) is (constant_fieldless (pos (before / 4))))
place_fieldless (InTexts object before) index is = unknown_fieldless
place_fieldless (Through parameter) index is = element_fieldless (c.Variable parameter (ToPointer ToNumber)) index tt is

quantity_fieldless : (q : Quantity) → HasNoField (quantity_term q)
quantity_fieldless (Written z) = number_fieldless z
quantity_fieldless (Saved object) = tt

pub address_fieldless : (address : Address) → HasNoField (number_term address)
address_fieldless (Alone object) = tt
address_fieldless (Inside object before) = (tt, tt)
address_fieldless (InTexts object before) = tt
address_fieldless (Through parameter) = tt

-- ## Choices of the definitions

mapped_fieldless : (form : Term → Term) (x : Option Term) (term : Term) → option_map form x ≡ Some term → ((t : Term) → x ≡ Some t → HasNoField t) → ((t : Term) → HasNoField t → HasNoField (form t))
    → HasNoField term
mapped_fieldless form (Some t) term h one made = subst HasNoField (some_same (form t) term h) (made t (one t refl))
mapped_fieldless form None term h one made = absurd (cc)

two_fieldless : (form : Term → Term → Term) (x y : Option Term) (term : Term) → with_two form x y ≡ Some term → ((t : Term) → x ≡ Some t → HasNoField t) → ((t : Term) → y ≡ Some t → HasNoField t)
    → ((t u : Term) → HasNoField t → HasNoField u → HasNoField (form t u)) → HasNoField term
unfolding with_two
two_fieldless form (Some t) (Some u) term h one other made = subst HasNoField (some_same (form t u) term h) (made t u (one t refl) (other u refl))
two_fieldless form (Some t) None term h one other made = absurd (cc)
two_fieldless form None y term h one other made = absurd (cc)

three_fieldless : (form : Term → Term → Term → Term) (x y z : Option Term) (term : Term) → with_three form x y z ≡ Some term → ((t : Term) → x ≡ Some t → HasNoField t) → ((t : Term) → y ≡ Some t → HasNoField t)
    → ((t : Term) → z ≡ Some t → HasNoField t) → ((t u v : Term) → HasNoField t → HasNoField u → HasNoField v → HasNoField (form t u v)) → HasNoField term
unfolding with_three
three_fieldless form (Some t) (Some u) (Some v) term h one other third made = subst HasNoField (some_same (form t u v) term h) (made t u v (one t refl) (other u refl) (third v refl))
three_fieldless form (Some t) (Some u) None term h one other third made = absurd (cc)
three_fieldless form (Some t) None z term h one other third made = absurd (cc)
three_fieldless form None y z term h one other third made = absurd (cc)

pub more_fieldless : (x : Option Term) (xs : Option (List Term)) (ts : List Term) → one_more x xs ≡ Some ts → ((t : Term) → x ≡ Some t → HasNoField t) → ((us : List Term) → xs ≡ Some us → HaveNoField us)
    → HaveNoField ts
unfolding one_more
more_fieldless (Some t) (Some us) ts h one others = subst HaveNoField (some_same (t ∷ us) ts h) (and_term (one t refl) (others us refl))
more_fieldless (Some t) None ts h one others = absurd (cc)
more_fieldless None xs ts h one others = absurd (cc)

pub held_fieldless : (holds : Bool) (t term : Term) → if_number holds (Some t) ≡ Some term → (holds ≡ true → HasNoField t) → HasNoField term
unfolding if_number
held_fieldless true t term h one = subst HasNoField (some_same t term h) (one refl)
held_fieldless false t term h one = absurd (cc)

pub if_fieldless : (holds : Bool) (x : Option Term) (term : Term) → if_number holds x ≡ Some term → (holds ≡ true → x ≡ Some term → HasNoField term) → HasNoField term
unfolding if_number
if_fieldless true x term h one = one refl h
if_fieldless false x term h one = absurd (cc)

pub datum_fieldless : (d : Datum) (term : Term) → constant_value d ≡ Some term → HasNoField term
unfolding constant_value
datum_fieldless (IsInt z) term h = by (in_range z) h
  where
    by : (b : Bool) → (if b then Some (constant_term z) else None) ≡ Some term → HasNoField term
    by true g = subst HasNoField (some_same (constant_term z) term g) (number_fieldless z)
    by false g = absurd (cc)
datum_fieldless (IsLog true) term h = subst HasNoField (some_same (c.Constant (pos 1)) term h) (constant_fieldless (pos 1))
datum_fieldless (IsLog false) term h = subst HasNoField (some_same (c.Constant (pos 0)) term h) (constant_fieldless (pos 0))
datum_fieldless (IsText cs) term h = absurd (cc)
datum_fieldless (IsSpot p) term h = absurd (cc)
datum_fieldless (fortran.IsProc x) term h = absurd (cc)
datum_fieldless (fortran.IsLabel l) term h = absurd (cc)
datum_fieldless fortran.Nothing term h = absurd (cc)

applied_by : (f : terms.Function) (ts : List Term) (term : Term) → function_term f ts ≡ Some term → HaveNoField ts → HasNoField term
applied_by terms.Truncation (a ∷ []) term h (and_term one rest) = subst HasNoField (some_same a term h) one
applied_by terms.Magnitude (a ∷ []) term h (and_term one rest) = subst HasNoField (some_same (c.Magnitude a) term h) (magnitude_fieldless a one)
applied_by terms.Remainder (a ∷ b ∷ []) term h (and_term one (and_term other rest)) = subst HasNoField (some_same (c.Between op.Remainder a b) term h) (between_fieldless op.Remainder a b one other)
applied_by terms.Largest (a ∷ later) term h (and_term one rest) = subst HasNoField (some_same (extreme_term extreme.Max a later) term h) (extreme_fieldless extreme.Max a later one rest)
applied_by terms.Smallest (a ∷ later) term h (and_term one rest) = subst HasNoField (some_same (extreme_term extreme.Min a later) term h) (extreme_fieldless extreme.Min a later one rest)
applied_by f ts term h are = absurd (cc)

applied_fieldless : (f : terms.Function) (xs : Option (List Term)) (term : Term) → applied_value (function_term f) xs ≡ Some term → ((ts : List Term) → xs ≡ Some ts → HaveNoField ts) → HasNoField term
unfolding applied_value
applied_fieldless f (Some ts) term h are = applied_by f ts term h (are ts refl)
applied_fieldless f None term h are = absurd (cc)

module _ (w : Writing) where
  steps_fieldless : (x : Bytes) (k : ℕ) (ts : List Term) → is_array w x ≡ true → HaveNoField ts → StepsHaveNoField (steps_from w.naming x k ts)
  unfolding steps_from
  steps_fieldless x k [] holds are = no_steps
  steps_fieldless x k (t ∷ ts) holds (and_term one rest) =
      and_step (record { distance = difference_fieldless t (quantity_term (w.naming.lower x k)) one (quantity_fieldless (w.naming.lower x k)); size = quantity_fieldless (w.naming.size x k) }) (steps_fieldless x (suc k) ts holds rest)

  element_value_fieldless : (x : Bytes) (xs : Option (List Term)) (term : Term) → is_array w x ≡ true → element_value w.naming x xs ≡ Some term → ((ts : List Term) → xs ≡ Some ts → HaveNoField ts) → HasNoField term
  unfolding element_value
  element_value_fieldless x (Some ts) term holds h are =
      subst HasNoField (some_same (element_term (w.naming.address x) (index_term (steps_from w.naming x 0 ts))) term h)
      (place_fieldless (w.naming.address x) (index_term (steps_from w.naming x 0 ts)) (index_fieldless (steps_from w.naming x 0 ts) (steps_fieldless x 0 ts holds (are ts refl))))
  element_value_fieldless x None term holds h are = absurd (cc)

  mutual
    unfolding value_term place_term value_terms

    pub value_fieldless : (p : Pure) (term : Term) → value_term w p ≡ Some term → HasNoField term
    value_fieldless (Constant d) term h = datum_fieldless d term h
    value_fieldless (Temporary k) term h = held_fieldless (w.is_number k) (c.Variable (w.naming.temporary k) ToNumber) term h (λ holds. tt)
    value_fieldless (Load p) term h = target_fieldless p term h
    value_fieldless (Prefixed o p) term h = mapped_fieldless (c.Prefixed (prefix_for o)) (value_term w p) term h (value_fieldless p) (λ t is. prefixed_fieldless (prefix_for o) t is)
    value_fieldless (Operated o p q) term h = two_fieldless (c.Between (operator_for o)) (value_term w p) (value_term w q) term h (value_fieldless p) (value_fieldless q) (λ t u one other. between_fieldless (operator_for o) t u one other)
    value_fieldless (Applied f ps) term h = applied_fieldless f (value_terms w ps) term h (values_fieldless ps)
    value_fieldless (Chosen p q r) term h = three_fieldless c.Choice (value_term w p) (value_term w q) (value_term w r) term h (value_fieldless p) (value_fieldless q) (value_fieldless r) (λ t u v one other third. choice_fieldless t u v one other third)
    value_fieldless (Name x) term h = absurd (cc)
    value_fieldless (AllOf x) term h = absurd (cc)
    value_fieldless (ElementOf x ps) term h = absurd (cc)
    value_fieldless (FirstOf p) term h = absurd (cc)
    value_fieldless (Substring x p from to) term h = absurd (cc)
    value_fieldless (Concatenated ps) term h = absurd (cc)

    pub target_fieldless : (p : Pure) (term : Term) → place_term w p ≡ Some term → HasNoField term
    target_fieldless (Name x) term h = held_fieldless (is_scalar w x) (number_term (w.naming.address x)) term h (λ holds. address_fieldless (w.naming.address x))
    target_fieldless (ElementOf x ps) term h = if_fieldless (is_array w x) (element_value w.naming x (value_terms w ps)) term h (λ holds is. element_value_fieldless x (value_terms w ps) term holds is (values_fieldless ps))
    target_fieldless (Constant d) term h = absurd (cc)
    target_fieldless (Temporary k) term h = absurd (cc)
    target_fieldless (Load p) term h = absurd (cc)
    target_fieldless (Prefixed o p) term h = absurd (cc)
    target_fieldless (Operated o p q) term h = absurd (cc)
    target_fieldless (Applied f ps) term h = absurd (cc)
    target_fieldless (Chosen p q r) term h = absurd (cc)
    target_fieldless (AllOf x) term h = absurd (cc)
    target_fieldless (FirstOf p) term h = absurd (cc)
    target_fieldless (Substring x p from to) term h = absurd (cc)
    target_fieldless (Concatenated ps) term h = absurd (cc)

    pub values_fieldless : (ps : Pures) (ts : List Term) → value_terms w ps ≡ Some ts → HaveNoField ts
    values_fieldless NoPure ts h = subst HaveNoField (some_same [] ts h) no_terms
    values_fieldless (AndPure p ps) ts h = more_fieldless (value_term w p) (value_terms w ps) ts h (value_fieldless p) (values_fieldless ps)
