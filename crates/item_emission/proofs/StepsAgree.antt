-- The items of a main program's steps by names are those of their flat items.
use Rattle.std.specs.Prelude.{◌≡◌, ℕ, ◌+◌, ◌-◌, Bool, true, false, List, [], Option, Some, None, option_map, option_and_then, slice_get, unwrap_or}
use Rattle.std.proofs.Common.{refl, ap, ◌∙◌, arith}
use Rattle.main_file.specs.f_tree.declared.names.Basic.{Basic}
use Rattle.main_file.specs.f_tree.Values.{Bytes}
use Rattle.main_file.specs.f_tree.Facts.{Facts, UnitKind, MainProgram, SubroutineUnit, FunctionUnit, BlockDataUnit}
use Rattle.main_file.specs.f_tree.CNames.{variable_name}
use Rattle.main_file.specs.l_core.Steps as step
use Rattle.main_file.specs.l_core.Steps.{Step}
use Rattle.c_tree.specs.declared.expression.CExpr.{CExpr}
use Rattle.c_tree.specs.declared.expression.CExpr.TheVariants as expr
use Rattle.c_tree.specs.Builtins.{builtin_names}
use Rattle.named_items.specs.c_structure.Expressions.{Names, with_two, number_expr, array_expr, expr_for}
use Rattle.main_file.specs.c_emit.Numbers.{is_scalar, is_array, has_number}
use Rattle.main_file.specs.c_emit.Flats.{returned_by, flat_of}
use Rattle.main_file.specs.MainFile.{Inventory, Bases, place_of_variable, place_or_none, object_name, string_at, names_of, writing_of}
use Rattle.named_items.specs.Items.{item_for}
use Rattle.item_emission.specs.NamedEmission.{Knowledge, variable_expr, temporary_expr, value_expr, scalar_expr, argument_exprs, call_step, wants_number, call_for_step, given_expr, alternate_step, return_step, item_step}
use Rattle.item_emission.specs.Agreeing.{giving_in, known_in, NumbersAreListed, IsListed, EmissionsAgree}
use Rattle.item_emission.proofs.KnownSteps.{StepsAreKnownBy, lower-agrees, size-agrees, step-known}
use Rattle.item_emission.proofs.ObjectNames.{variable_object, variable_is_no_string, temporary_is, constant_is, list_is, text_is}
use Rattle.item_emission.proofs.ValuesAgree.{IsKnownBy}

-- ## Returns, and calls of procedures, of which none is known

returned-agrees : (names : Names) (known : Knowledge) (kind : UnitKind) → option_and_then (item_for names) (returned_by kind) ≡ return_step (given_expr known (giving_in kind))
unfolding item_for returned_by return_step given_expr giving_in expr_for number_expr
returned-agrees names known MainProgram = refl
returned-agrees names known SubroutineUnit = refl
returned-agrees names known FunctionUnit = refl
returned-agrees names known BlockDataUnit = refl

no-alternate : (kind : UnitKind) (o : Option CExpr) → None ≡ alternate_step (giving_in kind) o
unfolding alternate_step giving_in
no-alternate MainProgram o = refl
no-alternate SubroutineUnit o = refl
no-alternate FunctionUnit o = refl
no-alternate BlockDataUnit o = refl

no-procedure : (wanted : Bool) (target : Option CExpr) (arguments : Option (List CExpr)) → None ≡ call_for_step wanted target None arguments
unfolding call_for_step
no-procedure true target arguments = refl
no-procedure false target arguments = refl

module _ (v : Inventory) (b : Bases) (facts : Facts) (kind : ℕ → ℕ → Option Basic) (label : ℕ → Option ℕ) (listed : NumbersAreListed v b (known_in v facts label)) where
  scalar-name : (x : Bytes) → (known_in v facts label).is_scalar x ≡ true → Some (expr.Name (object_name v b (b.function + place_or_none (place_of_variable v x)))) ≡ Some (variable_expr x)
  unfolding variable_expr
  scalar-name x there = let place = listed.scalars x there in ap (λ name. Some (expr.Name name)) (variable_object v b x place.0 place.1)

  array-name : (x : Bytes) → (known_in v facts label).is_array x ≡ true → (o : Option CExpr)
      → with_two expr.Index (Some (array_expr (string_at v b (b.function + place_or_none (place_of_variable v x))) (object_name v b (b.function + place_or_none (place_of_variable v x))))) o ≡ option_map (expr.Index (variable_expr x)) o
  unfolding variable_expr with_two array_expr
  array-name x there o =
      let place = listed.arrays x there in
      (λ i. with_two expr.Index (Some (array_expr (variable_is_no_string v b x place.0 place.1 i) (variable_object v b x place.0 place.1 i))) o) ∙ by o
    where
      by : (o : Option CExpr) → with_two expr.Index (Some (expr.Name (variable_name x))) o ≡ option_map (expr.Index (expr.Name (variable_name x))) o
      by None = refl
      by (Some e) = refl

  values-known : IsKnownBy (names_of v b) (writing_of v b facts kind) (known_in v facts label)
  unfolding is_scalar is_array has_number scalar_expr expr_for
  values-known = record {
    scalars = λ x. refl;
    arrays = λ x. refl;
    temporaries = λ k. refl;
    scalar_names = scalar-name;
    array_names = λ x there index. array-name x there (expr_for (names_of v b) index);
    temporary_names = λ k there. temporary_is v b k there;
    lowers = λ x k. lower-agrees (names_of v b) x (facts.program.attribute x).bounds k;
    sizes = λ x k. size-agrees (names_of v b) x (facts.program.attribute x).bounds k;
  }

  steps-known : StepsAreKnownBy (names_of v b) (writing_of v b facts kind) (known_in v facts label) label
  steps-known = record {
    values = values-known;
    basics = λ x. refl;
    has = λ z. refl;
    constants = λ z there. constant_is v b listed.behind z there;
    routines = λ k. ap (λ m. unwrap_or (slice_get builtin_names m) []) {x = (b.own + k) - b.own} {y = k} (omega arith);
    labels = λ l. refl;
  }

  pub main-step : (n : ℕ) (st : Step) → IsListed v n st → option_and_then (item_for (names_of v b)) (flat_of (writing_of v b facts kind) (λ m. m) label n st) ≡ item_step (known_in v facts label) (kind n) n st
  unfolding flat_of item_step call_step
  main-step n (step.CallFor k callee ps) there = no-procedure (wants_number callee.want) (temporary_expr (known_in v facts label) k) (argument_exprs (known_in v facts label) ps)
  main-step n (step.CallSub k x ps) there = refl
  main-step n step.Back there = returned-agrees (names_of v b) (known_in v facts label) facts.program.kind
  main-step n (step.BackBy p) there = no-alternate facts.program.kind (value_expr (known_in v facts label) p)
  main-step n (step.Acts (step.Starts way layout controls) ps m) there =
      step-known (names_of v b) (writing_of v b facts kind) (known_in v facts label) label steps-known n (step.Acts (step.Starts way layout controls) ps m) (there.0, there.1, list_is v b n there.0 there.1)
  main-step n (step.Halt text) there =
      step-known (names_of v b) (writing_of v b facts kind) (known_in v facts label) label steps-known n (step.Halt text) (text_is v b n there.0 there.1 ∙ ap Some there.2)
  main-step n st there = step-known (names_of v b) (writing_of v b facts kind) (known_in v facts label) label steps-known n st tt

pub emissions_agree : EmissionsAgree
emissions_agree v b facts kind label n st listed there = main-step v b facts kind label listed n st there
