-- Whether a procedure may be passed makes a difference only where the name has a function.
use Rattle.std.specs.Prelude.{◌≡◌, ℕ, suc, ◌+◌, ◌-◌, ℤ, pos, Bool, true, false, if◌then◌else◌, List, [], ◌∷◌, length, drop, Option, Some, None, option_map, option_and_then}
use Rattle.std.proofs.Common.{refl, ap, ◌∙◌}
use Rattle.f_tree.specs.Values.{Bytes, IsInt, IsLog, IsLabel}
use Rattle.f_tree.specs.Facts.{Output, Listed, Controls}
use Rattle.lowered_tree.specs.l_core.Pures.{Pure, Constant, Temporary, Load, Name, AllOf, ElementOf, FirstOf, Substring, Concatenated, Prefixed, Operated, Applied, Chosen, Pures, NoPure, AndPure}
use Rattle.lowered_tree.specs.l_core.Steps as step
use Rattle.lowered_tree.specs.l_core.Steps.{Step}
use Rattle.c_tree.specs.declared.expression.CExpr.{CExpr}
use Rattle.c_tree.specs.declared.expression.CExpr.TheVariants as expr
use Rattle.named_items.specs.c_structure.Expressions.{with_two, with_three, one_more}
use Rattle.c_emit.specs.c_image.Operations.{prefix_for, operator_for}
use Rattle.c_emit.specs.LibraryFunctions.{library_function}
use Rattle.c_emit.specs.Calls.{kind_number}
use Rattle.named_items.specs.declared.item.Item.{Item}
use Rattle.named_items.specs.Items.{assign_by}
use Rattle.item_emission.specs.declared.known.Giving.{Giving}
use Rattle.item_emission.specs.declared.known.Giving.TheVariants as giving
use Rattle.item_emission.specs.NamedEmission.{Knowledge, Kinds, address_expr, alternate_step, acting_step, applied_expr, argument_expr, argument_exprs, branch_step, call_for_step, call_step, cases_from, computed_step, constant_expr, constant_held, datum_held, element_expr, expr_if, given_expr, held_expr, held_exprs, item_step, name_passed, output_by, output_step, place_expr, procedure_passed, return_step, scalar_passed, select_step, start_step, switch_step, temporary_expr, type_at, type_in, value_expr, value_exprs, variable_expr, wants_number}
use Rattle.unit_translation.specs.unit_file.UnitFile.{KeptBound, bound_name}
use Rattle.unit_item_laws.specs.AgreeingUnits.{bound_step}
use Rattle.named_mains.specs.NamedMains.{item_ahead, items_from}
use Rattle.named_units.specs.NamedUnits.{bound_items_from, items_behind}

-- what is known, but for which names may be passed
abbrev pub with_passed : Knowledge → (Bytes → Bool) → Knowledge
with_passed known passes = record {
  is_scalar = known.is_scalar;
  is_array = known.is_array;
  basic = known.basic;
  dimension = known.dimension;
  standing = known.standing;
  is_procedure = passes;
  routine = known.routine;
  temporaries = known.temporaries;
  has = known.has;
  list = known.list;
  label = known.label;
  gives = known.gives;
}

module _ (known : Knowledge) (passes : Bytes → Bool) (same : (x : Bytes) → procedure_passed (passes x) (known.routine x) ≡ procedure_passed (known.is_procedure x) (known.routine x)) where
  abbrev other : Knowledge
  other = with_passed known passes

  temporary_same : (k : ℕ) → temporary_expr other k ≡ temporary_expr known k
  unfolding temporary_expr
  temporary_same k = refl

  mutual
    unfolding value_expr place_expr value_exprs

    value_same : (p : Pure) → value_expr other p ≡ value_expr known p
    value_same (Constant d) = refl
    value_same (Temporary k) = temporary_same k
    value_same (Load p) = place_same p
    value_same (Prefixed sign p) = ap (option_map (expr.Unary (prefix_for sign))) (value_same p)
    value_same (Operated sign p q) = λ i. with_two (expr.Binary (operator_for sign)) (value_same p i) (value_same q i)
    value_same (Applied f ps) = ap (applied_expr f) (values_same ps)
    value_same (Chosen p q r) = λ i. with_three expr.Choose (value_same p i) (value_same q i) (value_same r i)
    value_same (Name x) = refl
    value_same (AllOf x) = refl
    value_same (ElementOf x ps) = refl
    value_same (FirstOf p) = refl
    value_same (Substring x p q r) = refl
    value_same (Concatenated ps) = refl

    place_same : (p : Pure) → place_expr other p ≡ place_expr known p
    place_same (Name x) = refl
    place_same (ElementOf x ps) = ap (λ o. expr_if (known.is_array x) (element_expr x (known.dimension x) o)) (values_same ps)
    place_same (Constant d) = refl
    place_same (Temporary k) = refl
    place_same (Load p) = refl
    place_same (AllOf x) = refl
    place_same (FirstOf p) = refl
    place_same (Substring x p q r) = refl
    place_same (Concatenated ps) = refl
    place_same (Prefixed sign p) = refl
    place_same (Operated sign p q) = refl
    place_same (Applied f ps) = refl
    place_same (Chosen p q r) = refl

    values_same : (ps : Pures) → value_exprs other ps ≡ value_exprs known ps
    values_same NoPure = refl
    values_same (AndPure p ps) = λ i. one_more (value_same p i) (values_same ps i)

  type_same : (kind : Kinds) (p : Pure) → type_in other kind p ≡ type_in known kind p
  unfolding type_in type_at
  type_same kind (Load (Name x)) = refl
  type_same kind (Load (ElementOf x ps)) = refl
  type_same kind (Load p) = refl
  type_same kind p = refl

  held_same : (p : Pure) → held_expr other p ≡ held_expr known p
  unfolding held_expr datum_held constant_held
  held_same (Constant (IsInt z)) = refl
  held_same (Constant (IsLog true)) = refl
  held_same (Constant (IsLog false)) = refl
  held_same (Constant d) = refl
  held_same (Temporary k) = temporary_same k
  held_same (Load p) = place_same p
  held_same p = refl

  held_all_same : (ps : Pures) → held_exprs other ps ≡ held_exprs known ps
  unfolding held_exprs
  held_all_same NoPure = refl
  held_all_same (AndPure p ps) = λ i. one_more (held_same p i) (held_all_same ps i)

  name_same : (x : Bytes) → name_passed other x ≡ name_passed known x
  unfolding name_passed
  name_same x = ap (λ (o : Option CExpr). if known.is_scalar x then Some (scalar_passed (known.standing x) x) else (if known.is_array x then Some (variable_expr x) else o)) (same x)

  argument_same : (p : Pure) → argument_expr other p ≡ argument_expr known p
  unfolding argument_expr held_expr
  argument_same (Constant d) = ap (option_map address_expr) (held_same (Constant d))
  argument_same (Temporary k) = ap (option_map address_expr) (temporary_same k)
  argument_same (Name x) = name_same x
  argument_same (ElementOf x ps) = ap (option_map address_expr) (place_same (ElementOf x ps))
  argument_same p = refl

  arguments_same : (ps : Pures) → argument_exprs other ps ≡ argument_exprs known ps
  unfolding argument_exprs
  arguments_same NoPure = refl
  arguments_same (AndPure (Constant (IsLabel label)) ps) = arguments_same ps
  arguments_same (AndPure p ps) = λ i. one_more (argument_same p i) (arguments_same ps i)

  output_same : (number : Option ℤ) (o : Option CExpr) → output_by other number o ≡ output_by known number o
  unfolding output_by
  output_same (Some z) (Some e) = refl
  output_same (Some z) None = refl
  output_same None o = refl

  takes_same : (kind : Kinds) (ps : Pures) → output_step other kind ps ≡ output_step known kind ps
  unfolding output_step
  takes_same kind NoPure = refl
  takes_same kind (AndPure p NoPure) =
      output_same (option_and_then kind_number (type_in other kind p)) (held_expr other p)
      ∙ (λ i. output_by known (option_and_then kind_number (type_same kind p i)) (held_same p i))
  takes_same kind (AndPure p (AndPure q ps)) = refl

  start_same : (n : ℕ) (controls : Controls) (ps : Pures) → start_step other n controls ps ≡ start_step known n controls ps
  unfolding start_step
  start_same n controls (AndPure (Constant (IsInt unit)) NoPure) = refl
  start_same n controls ps = refl

  given_same : (gives : Giving) → given_expr other gives ≡ given_expr known gives
  unfolding given_expr
  given_same giving.Zero = refl
  given_same giving.Alternate = refl
  given_same (giving.Value x) = place_same (Name x)
  given_same giving.Nothing = refl

  pub step_same : (kind : Kinds) (n : ℕ) (st : Step) → item_step other kind n st ≡ item_step known kind n st
  unfolding item_step acting_step
  step_same kind n (step.Put target p) = λ i. assign_by (place_same target i) (value_same p i)
  step_same kind n (step.Keep k p) = λ i. assign_by (temporary_same k i) (value_same p i)
  step_same kind n (step.Compute k f ps) = λ i. computed_step (temporary_same k i) (library_function f) (held_all_same ps i)
  step_same kind n (step.Unless p m) = ap (λ o. branch_step o (suc n) (suc n + m)) (value_same p)
  step_same kind n (step.AgainIf p m) = ap (λ o. branch_step o (n - m) (suc n)) (value_same p)
  step_same kind n (step.Select p count) = ap (λ o. select_step o (cases_from 1 (suc n) count) (suc n + count)) (value_same p)
  step_same kind n (step.Branch k count) = ap (λ o. select_step o (cases_from 1 (suc n) count) (suc n + count)) (value_same (Temporary k))
  step_same kind n (step.PutLabel target l) = ap (λ o. assign_by o (constant_expr (pos l))) (place_same target)
  step_same kind n (step.JumpBy p labels) = ap (switch_step n labels) (place_same p)
  step_same kind n (step.CallFor k callee ps) = λ i. call_for_step (wants_number callee.want) (temporary_same k i) (known.routine callee.name) (arguments_same ps i)
  step_same kind n (step.CallSub k x ps) = ap (call_step (known.routine x)) (arguments_same ps)
  step_same kind n step.Back = ap return_step (given_same known.gives)
  step_same kind n (step.BackBy p) = ap (alternate_step known.gives) (value_same p)
  step_same kind n (step.Acts (step.Starts Output Listed controls) ps m) = start_same n controls ps
  step_same kind n (step.Acts step.Takes ps m) = takes_same kind ps
  step_same kind n st = refl

  items_passed_same : (kinds : ℕ → Kinds) (n : ℕ) (steps : List Step) → items_from other kinds n steps ≡ items_from known kinds n steps
  unfolding items_from
  items_passed_same kinds n [] = refl
  items_passed_same kinds n (st ∷ later) = λ i. item_ahead (step_same (kinds n) n st i) (items_passed_same kinds (suc n) later i)

  bound_same : (one : KeptBound) → bound_step other one ≡ bound_step known one
  unfolding bound_step
  bound_same one = ap (assign_by (Some (expr.Name (bound_name one)))) (value_same one.value)

  bounds_same : (bounds : List KeptBound) (items : Option (List Item)) → bound_items_from other bounds items ≡ bound_items_from known bounds items
  unfolding bound_items_from
  bounds_same [] items = refl
  bounds_same (one ∷ later) items = λ i. item_ahead (bound_same one i) (bounds_same later items i)

  pub behind_passed_same : (kinds : ℕ → Kinds) (bounds : List KeptBound) (steps : List Step) → items_behind other kinds bounds steps ≡ items_behind known kinds bounds steps
  unfolding items_behind
  behind_passed_same kinds bounds steps =
      bounds_same bounds (items_from other kinds (length bounds) (drop (length bounds) steps))
      ∙ ap (bound_items_from known bounds) (items_passed_same kinds (length bounds) (drop (length bounds) steps))
