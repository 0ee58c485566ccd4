-- What is written for a value does not depend on how steps are numbered; the type of a value before a step is that of the step so many places further on.
use Rattle.std.specs.Prelude.{◌≡◌, ℕ, ◌+◌, option_map}
use Rattle.std.proofs.Common.{refl, ap}
use Rattle.procedure_emission.specs.l_core.Pures.{Pure, Constant, Temporary, Load, Name, AllOf, ElementOf, FirstOf, Substring, Concatenated, Prefixed, Operated, Applied, Chosen, Pures, NoPure, AndPure}
use Rattle.procedure_emission.specs.c_tree.Terms as c
use Rattle.procedure_emission.specs.c_image.Operations.{prefix_for, operator_for, function_term}
use Rattle.procedure_emission.specs.c_emit.Numbers.{Writing, has_number, is_scalar, is_array, with_two, with_three, one_more, element_value, applied_value, if_number, value_term, place_term, value_terms}
use Rattle.procedure_emission.specs.c_emit.Calls.{constant_held, if_held, held_term, held_terms}
use Rattle.procedure_emission.specs.c_emit.Types.{type_at, type_of}
use Rattle.behind_bounds.specs.BehindBounds.{writing_behind}

module _ (w : Writing) (first : ℕ) where
  abbrev v : Writing
  v = writing_behind first w

  mutual
    unfolding value_term place_term value_terms is_scalar is_array has_number

    pub value_same : (p : Pure) → value_term w p ≡ value_term v p
    value_same (Constant d) = refl
    value_same (Temporary k) = refl
    value_same (Load p) = place_same p
    value_same (Prefixed op p) = ap (option_map (c.Prefixed (prefix_for op))) (value_same p)
    value_same (Operated op p q) = λ i. with_two (c.Between (operator_for op)) (value_same p i) (value_same q i)
    value_same (Applied function ps) = ap (applied_value (function_term function)) (values_same ps)
    value_same (Chosen p q r) = λ i. with_three c.Choice (value_same p i) (value_same q i) (value_same r i)
    value_same (Name x) = refl
    value_same (AllOf x) = refl
    value_same (ElementOf x ps) = refl
    value_same (FirstOf p) = refl
    value_same (Substring x p from to) = refl
    value_same (Concatenated ps) = refl

    pub place_same : (p : Pure) → place_term w p ≡ place_term v p
    place_same (Name x) = refl
    place_same (ElementOf x ps) = ap (λ ts. if_number (is_array w x) (element_value w.naming x ts)) (values_same ps)
    place_same (Constant d) = refl
    place_same (Temporary k) = refl
    place_same (Load p) = refl
    place_same (Prefixed op p) = refl
    place_same (Operated op p q) = refl
    place_same (Applied function ps) = refl
    place_same (Chosen p q r) = refl
    place_same (AllOf x) = refl
    place_same (FirstOf p) = refl
    place_same (Substring x p from to) = refl
    place_same (Concatenated ps) = refl

    pub values_same : (ps : Pures) → value_terms w ps ≡ value_terms v ps
    values_same NoPure = refl
    values_same (AndPure p ps) = λ i. one_more (value_same p i) (values_same ps i)

  constant_same : (d : _) → constant_held w d ≡ constant_held v d
  unfolding constant_held if_held
  constant_same d = refl

  pub held_same : (p : Pure) → held_term w p ≡ held_term v p
  unfolding held_term constant_held if_held
  held_same (Constant d) = constant_same d
  held_same (Temporary k) = refl
  held_same (Load p) = place_same p
  held_same p = refl

  pub all_held_same : (ps : Pures) → held_terms w ps ≡ held_terms v ps
  unfolding held_terms
  all_held_same NoPure = refl
  all_held_same (AndPure p ps) = λ i. one_more (held_same p i) (all_held_same ps i)

  type_at_same : (p : Pure) → type_at w p ≡ type_at v p
  unfolding type_at
  type_at_same (Name x) = refl
  type_at_same (ElementOf x ps) = refl
  type_at_same p = refl

  pub type_same : (n : ℕ) (p : Pure) → type_of w (first + n) p ≡ type_of v n p
  unfolding type_of
  type_same n (Load p) = type_at_same p
  type_same n p = refl
