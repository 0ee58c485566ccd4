-- The items of a unit's steps by names are those of its flat items.
use Rattle.std.specs.Prelude.{◌≡◌, ℕ, ◌+◌, ◌≤◌, Bool, true, false, not, ◌&&◌, List, [], ◌∷◌, map, length, slice_get, Option, Some, None, is_some, option_map, option_and_then, if◌then◌else◌}
use Rattle.std.proofs.Common.{refl, sym, ap, ◌∙◌}
use Rattle.item_emission.specs.f_tree.declared.names.Basic.{Basic}
use Rattle.item_emission.specs.f_tree.declared.names.Basic.TheVariants.{Integer, Logical, Character, Untyped}
use Rattle.item_emission.specs.f_tree.declared.names.Class.{Class}
use Rattle.item_emission.specs.f_tree.declared.names.Class.TheVariants as class
use Rattle.item_emission.specs.f_tree.Values.{Bytes, IsLabel}
use Rattle.item_emission.specs.f_tree.Terms.{Wanted, AsSubroutine, AsFunction}
use Rattle.item_emission.specs.f_tree.Facts.{Facts, UnitKind, MainProgram, SubroutineUnit, FunctionUnit, BlockDataUnit, EntryPoint}
use Rattle.item_emission.specs.f_tree.World.{Procedure}
use Rattle.item_emission.specs.l_core.Pures.{Pure, Constant, Temporary, Name, ElementOf, Pures, NoPure, AndPure}
use Rattle.item_emission.specs.l_core.Steps as step
use Rattle.item_emission.specs.l_core.Steps.{Step}
use Rattle.item_emission.specs.c_tree.declared.types.CastType.TheVariants as to
use Rattle.item_emission.specs.c_tree.declared.types.FunctionType.TheVariants as pointer
use Rattle.item_emission.specs.c_tree.declared.expression.CExpr.{CExpr}
use Rattle.item_emission.specs.c_tree.declared.expression.CExpr.TheVariants as expr
use Rattle.item_emission.specs.c_tree.declared.expression.UnaryOp.TheVariants as prefix
use Rattle.item_emission.specs.c_tree.Access.{ToNumber, ToFunction}
use Rattle.item_emission.specs.c_tree.Terms as c
use Rattle.item_emission.specs.c_tree.Terms.{Term}
use Rattle.item_emission.specs.c_tree.Flat as flat
use Rattle.item_emission.specs.c_tree.Flat.{Assign, Invoke, Return, Ignored, Kept}
use Rattle.item_emission.specs.c_structure.Expressions.{Names, with_two, number_expr, array_expr, expr_for, one_more, exprs_for}
use Rattle.item_emission.specs.c_image.Addresses.{number_term, element_term}
use Rattle.item_emission.specs.c_image.Elements.{quantity_term}
use Rattle.item_emission.specs.c_emit.Numbers as emit
use Rattle.item_emission.specs.c_emit.Numbers.{Writing, is_numeric, is_variable, has_number, has_shape, is_scalar, is_array, if_number, value_term, place_term}
use Rattle.item_emission.specs.c_emit.Calls.{address_of, held_term}
use Rattle.item_emission.specs.c_emit.Flats.{returned_by}
use Rattle.unit_file_laws.specs.procedure_emission.bound_items.BoundItems.{saving_item}
use Rattle.unit_file_laws.specs.procedure_emission.ProcedureItems.{Numbers, pointer_term, routine_term, name_argument, argument_term, argument_terms, callee_for, function_called, call_item, basic_wanted, kept_item, call_for_item, result_term, back_item, back_by_item, procedure_item}
use Rattle.unit_file_laws.specs.unit_file.UnitFile.{BoundKind, LowerOf, SizeOf, KeptBound, Inventory, Bases, name_of_bound, first_bound, is_bound, place_of_bound, quantity_in, place_of_parameter, parameter_object, address_in, lower_of, size_of, writing_of}
use Rattle.unit_file_laws.specs.unit_file.UnitNames.{object_name, routine_name, names_of}
use Rattle.unit_file_laws.specs.unit_sites.UnitSites.{Site}
use Rattle.unit_file_laws.specs.KnownUnits.{NamesAreListed}
use Rattle.item_emission.specs.named_items.declared.item.Callee.{Callee}
use Rattle.item_emission.specs.named_items.declared.item.Item.TheVariants as item
use Rattle.item_emission.specs.named_items.Items.{by_name, through, assign_by, call_by, set_call_by, item_for}
use Rattle.item_emission.specs.declared.known.LowerBound.TheVariants as low
use Rattle.item_emission.specs.declared.known.Size.TheVariants as many
use Rattle.item_emission.specs.Agreeing.{dimension_of}
use Rattle.item_emission.specs.NamedEmission.{Knowledge, dimension_at, lower_expr, size_expr, address_expr, variable_expr, result_object, scalar_expr, value_expr, held_expr, scalar_passed, procedure_expr, procedure_passed, name_passed, argument_expr, argument_exprs, call_step, wants_number, call_for_step, return_step, given_expr, alternate_step, item_step}
use Rattle.item_emission.proofs.ObjectNames.{position_finds}
use Rattle.item_emission.proofs.ValuesAgree.{IsKnownBy, expr_of, exprs_of, more-agrees}
use Rattle.item_emission.proofs.KnownSteps.{StepsAreKnownBy, lower-agrees, size-agrees, value-known, place-known, temporary-known, held-known, step-known}
use Rattle.unit_item_laws.specs.AgreeingUnits.{lower_in, size_in, standing_in, is_procedure_in, routine_in, result_in, giving_of_unit, known_of_unit, bound_step, IsListed, UnitEmissionsAgree, UnitBoundsAgree}
use Rattle.unit_item_laws.proofs.UnitObjects.{variable_is, variable_is_no_string, parameter_is, result_is, temporary_is, found_name, bound_is, constant_is, list_is, text_is, library_is}

-- ## Forms of options

address-agrees : (names : Names) (o : Option Term) → expr_of names (option_map address_of o) ≡ option_map address_expr (expr_of names o)
unfolding expr_for
address-agrees names None = refl
address-agrees names (Some t) = refl

indexed : (e : CExpr) (o : Option CExpr) → with_two expr.Index (Some e) o ≡ option_map (expr.Index e) o
unfolding with_two
indexed e None = refl
indexed e (Some i) = refl

-- ## Assignments

-- to a variable, by its name
assigned-agrees : (names : Names) (k : ℕ) (o : Option Term) → option_and_then (item_for names) (option_map (Assign (c.Variable k ToNumber)) o) ≡ assign_by (Some (expr.Name (names.object k))) (expr_of names o)
unfolding item_for expr_for assign_by
assigned-agrees names k None = refl
assigned-agrees names k (Some t) = refl

-- ## Calls

-- the function that is called, by its name
unfoldable callee_named : Names → flat.Callee → Option Callee
callee_named names (flat.Direct k) = Some (by_name (names.routine k))
callee_named names (flat.Through (c.Variable k ToFunction)) = Some (through (names.object k))
callee_named names callee = None

invoked : (names : Names) (callee : flat.Callee) (ts : List Term) → item_for names (Invoke Ignored callee ts) ≡ call_step (callee_named names callee) (exprs_for names ts)
unfolding item_for callee_named call_step
invoked names (flat.Direct k) ts = refl
invoked names (flat.Through (c.Variable k ToFunction)) ts = refl
invoked names callee ts = refl

no-arguments : (o : Option Callee) → None ≡ call_step o None
unfolding call_step call_by
no-arguments None = refl
no-arguments (Some callee) = refl

call-agrees : (names : Names) (f : Option flat.Callee) (o : Option (List Term)) → option_and_then (item_for names) (call_item Ignored f o) ≡ call_step (option_and_then (callee_named names) f) (exprs_of names o)
unfolding call_item call_step
call-agrees names (Some callee) (Some ts) = invoked names callee ts
call-agrees names (Some callee) None = no-arguments (callee_named names callee)
call-agrees names None o = refl

kept-invoked : (names : Names) (t : Term) (callee : flat.Callee) (ts : List Term) → item_for names (Invoke (Kept t) callee ts) ≡ call_for_step true (expr_for names t) (callee_named names callee) (exprs_for names ts)
unfolding item_for callee_named call_for_step
kept-invoked names t (flat.Direct k) ts = refl
kept-invoked names t (flat.Through (c.Variable k ToFunction)) ts = refl
kept-invoked names t callee ts = refl

no-kept-arguments : (e : Option CExpr) (o : Option Callee) → None ≡ call_for_step true e o None
unfolding call_for_step set_call_by
no-kept-arguments e None = refl
no-kept-arguments None (Some callee) = refl
no-kept-arguments (Some e) (Some callee) = refl

no-target : (o : Option Callee) (es : Option (List CExpr)) → None ≡ call_for_step true None o es
unfolding call_for_step set_call_by
no-target None es = refl
no-target (Some callee) es = refl

kept-agrees : (names : Names) (basic : Option Basic) (target : Option Term) (f : Option flat.Callee) (o : Option (List Term))
    → option_and_then (item_for names) (kept_item basic target f o) ≡ call_for_step (is_some basic) (expr_of names target) (option_and_then (callee_named names) f) (exprs_of names o)
unfolding kept_item call_item call_for_step
kept-agrees names (Some basic) (Some t) (Some callee) (Some ts) = kept-invoked names t callee ts
kept-agrees names (Some basic) (Some t) (Some callee) None = no-kept-arguments (expr_for names t) (callee_named names callee)
kept-agrees names (Some basic) (Some t) None o = refl
kept-agrees names (Some basic) None f o = no-target (option_and_then (callee_named names) f) (exprs_of names o)
kept-agrees names None target f o = refl

wanted-agrees : (want : Wanted) → is_some (basic_wanted want) ≡ wants_number want
unfolding basic_wanted wants_number is_numeric
wanted-agrees AsSubroutine = refl
wanted-agrees (AsFunction Integer width) = refl
wanted-agrees (AsFunction Logical width) = refl
wanted-agrees (AsFunction Character width) = refl
wanted-agrees (AsFunction Untyped width) = refl

-- ## Returns

return-by : (o : Option CExpr) → option_map (λ e. item.Return (Some e)) o ≡ return_step o
unfolding return_step
return-by o = refl

return-agrees : (names : Names) (o : Option Term) → option_and_then (item_for names) (option_map (λ term. Return (Some term)) o) ≡ return_step (expr_of names o)
unfolding item_for return_step
return-agrees names None = refl
return-agrees names (Some t) = return-by (expr_for names t)

-- ## Truth of parts

both_hold : (s t : Bool) → s && t ≡ true → (s ≡ true) × (t ≡ true)
both_hold true true h = (refl, refl)
both_hold true false h = absurd (cc)
both_hold false t h = absurd (cc)

not_so : (s : Bool) → not s ≡ true → s ≡ false
not_so true h = absurd (cc)
not_so false h = refl

module _ (vs : List Inventory) (s : Site) (v : Inventory) (facts : Facts) (numbers : Numbers) (kind : ℕ → ℕ → Option Basic) (label : ℕ → Option ℕ) (owned : s.bases.own ≡ length vs) (before : s.bases.file + length s.constants ≤ s.bases.function)
    (listed : NamesAreListed v facts) where
  abbrev b : Bases
  b = s.bases

  abbrev names : Names
  names = names_of s.constants vs v b

  abbrev w : Writing
  w = writing_of s.constants v b facts kind

  abbrev known : Knowledge
  known = known_of_unit s.constants vs v facts numbers label

  -- ## Names

  parameter-name : (x : Bytes) (i : ℕ) → place_of_parameter v x ≡ Some i → Some (expr.Name (object_name s.constants v b (parameter_object v b x))) ≡ Some (variable_expr x)
  unfolding variable_expr
  parameter-name x i is = ap (λ name. Some (expr.Name name)) (parameter_is s v x i is)

  scalar-by : (x : Bytes) (k : Class) → (facts.program.attribute x).class ≡ k → is_variable k ≡ true → is_numeric (facts.program.attribute x).basic ≡ true → expr_for names (number_term (address_in v b x k)) ≡ Some (scalar_expr (standing_in k) x)
  unfolding address_in is_variable expr_for scalar_expr standing_in result_object variable_expr
  scalar-by x class.Stored is variable numeric = let p = listed.stored x is numeric in ap (λ name. Some (expr.Name name)) (variable_is s v x p.place p.placed)
  scalar-by x class.Dummy is variable numeric = let p = listed.dummies x is numeric in ap (λ name. Some (expr.Unary prefix.Deref (expr.Name name))) (parameter_is s v x p.place p.placed)
  scalar-by x class.Result is variable numeric = let r = (listed.results x is numeric).1 in ap (λ name. Some (expr.Name name)) (result_is s v r.0 r.1)
  scalar-by x other is variable numeric = absurd (cc)

  -- the start of an array, and an element of it
  start-by : (x : Bytes) (k : Class) → (facts.program.attribute x).class ≡ k → is_variable k ≡ true → is_numeric (facts.program.attribute x).basic ≡ true → has_shape (facts.program.attribute x).dimensions ≡ true
      → expr_for names (pointer_term true (address_in v b x k)) ≡ Some (variable_expr x)
  unfolding address_in is_variable expr_for array_expr variable_expr
  start-by x class.Stored is variable numeric some =
      let p = listed.stored x is numeric in (λ i. Some (array_expr (variable_is_no_string s v x p.place p.placed i) (variable_is s v x p.place p.placed i)))
  start-by x class.Dummy is variable numeric some = let p = listed.dummies x is numeric in parameter-name x p.place p.placed
  start-by x class.Result is variable numeric some = let no : true ≡ false = sym some ∙ (listed.results x is numeric).0 in absurd (cc)
  start-by x other is variable numeric some = absurd (cc)

  element-by : (x : Bytes) (k : Class) → (facts.program.attribute x).class ≡ k → is_variable k ≡ true → is_numeric (facts.program.attribute x).basic ≡ true → has_shape (facts.program.attribute x).dimensions ≡ true
      → (index : Term) → expr_for names (element_term (address_in v b x k) index) ≡ option_map (expr.Index (variable_expr x)) (expr_for names index)
  unfolding address_in is_variable expr_for
  element-by x class.Stored is variable numeric some index = ap (λ o. with_two expr.Index o (expr_for names index)) (start-by x class.Stored is variable numeric some) ∙ indexed (variable_expr x) (expr_for names index)
  element-by x class.Dummy is variable numeric some index = ap (λ o. with_two expr.Index o (expr_for names index)) (start-by x class.Dummy is variable numeric some) ∙ indexed (variable_expr x) (expr_for names index)
  element-by x class.Result is variable numeric some index = let no : true ≡ false = sym some ∙ (listed.results x is numeric).0 in absurd (cc)
  element-by x other is variable numeric some index = absurd (cc)

  scalar-name : (x : Bytes) → known.is_scalar x ≡ true → expr_for names (number_term (address_in v b x (facts.program.attribute x).class)) ≡ Some (scalar_expr (standing_in (facts.program.attribute x).class) x)
  scalar-name x holds =
      let both = both_hold (is_variable (facts.program.attribute x).class && is_numeric (facts.program.attribute x).basic) (not (has_shape (facts.program.attribute x).dimensions)) holds in
      let number = both_hold (is_variable (facts.program.attribute x).class) (is_numeric (facts.program.attribute x).basic) both.0 in
      scalar-by x (facts.program.attribute x).class refl number.0 number.1

  array-name : (x : Bytes) → known.is_array x ≡ true → (index : Term) → expr_for names (element_term (address_in v b x (facts.program.attribute x).class) index) ≡ option_map (expr.Index (variable_expr x)) (expr_for names index)
  array-name x holds index =
      let both = both_hold (is_variable (facts.program.attribute x).class && is_numeric (facts.program.attribute x).basic) (has_shape (facts.program.attribute x).dimensions) holds in
      let number = both_hold (is_variable (facts.program.attribute x).class) (is_numeric (facts.program.attribute x).basic) both.0 in
      element-by x (facts.program.attribute x).class refl number.0 number.1 both.1 index

  -- the object of a bound that is kept
  kept-name : (x : Bytes) (k : ℕ) (kind' : BoundKind) (i : ℕ) → place_of_bound v x k kind' ≡ Some i → object_name s.constants v b (first_bound v b + i) ≡ name_of_bound x k kind'
  kept-name x k kind' i is = let found = position_finds (is_bound x k kind') v.bounds i is in bound_is s v i found.one found.at ∙ found_name x k kind' found.one found.passes

  lower-kept : (x : Bytes) (k i : ℕ) → place_of_bound v x k LowerOf ≡ Some i → expr_for names (c.Variable (first_bound v b + i) ToNumber) ≡ lower_expr x k low.Kept
  unfolding expr_for lower_expr name_of_bound
  lower-kept x k i is = ap (λ name. Some (expr.Name name)) (kept-name x k LowerOf i is)

  size-kept : (x : Bytes) (k i : ℕ) → place_of_bound v x k SizeOf ≡ Some i → expr_for names (c.Variable (first_bound v b + i) ToNumber) ≡ size_expr x k many.Kept
  unfolding expr_for size_expr name_of_bound
  size-kept x k i is = ap (λ name. Some (expr.Name name)) (kept-name x k SizeOf i is)

  -- a bound that is kept, or is constant
  lower-known : (x : Bytes) (k : ℕ) → expr_for names (quantity_term (w.naming.lower x k)) ≡ lower_expr x k (known.dimension x k).lower
  unfolding quantity_in lower_in
  lower-known x k = by (place_of_bound v x k LowerOf) refl
    where
      by : (found : Option ℕ) → place_of_bound v x k LowerOf ≡ found
          → expr_for names (quantity_term (quantity_in v b found (lower_of (slice_get (facts.program.attribute x).bounds k)))) ≡ lower_expr x k (lower_in found (dimension_at (map dimension_of (facts.program.attribute x).bounds) k).lower)
      by None is = lower-agrees names x (facts.program.attribute x).bounds k
      by (Some i) is = lower-kept x k i is

  size-known : (x : Bytes) (k : ℕ) → expr_for names (quantity_term (w.naming.size x k)) ≡ size_expr x k (known.dimension x k).size
  unfolding quantity_in size_in
  size-known x k = by (place_of_bound v x k SizeOf) refl
    where
      by : (found : Option ℕ) → place_of_bound v x k SizeOf ≡ found
          → expr_for names (quantity_term (quantity_in v b found (size_of (slice_get (facts.program.attribute x).bounds k)))) ≡ size_expr x k (size_in found (dimension_at (map dimension_of (facts.program.attribute x).bounds) k).size)
      by None is = size-agrees names x (facts.program.attribute x).bounds k
      by (Some i) is = size-kept x k i is

  values-known : IsKnownBy names w known
  unfolding is_scalar is_array has_number
  values-known = record {
    scalars = λ x. refl;
    arrays = λ x. refl;
    temporaries = λ k. refl;
    scalar_names = scalar-name;
    array_names = array-name;
    temporary_names = λ k there. temporary_is s v k there;
    lowers = lower-known;
    sizes = size-known;
  }

  steps-known : StepsAreKnownBy names w known label
  steps-known = record {
    values = values-known;
    basics = λ x. refl;
    has = λ z. refl;
    constants = λ z there. constant_is s v before z there;
    routines = λ k. library_is vs s.bases.own k owned;
    labels = λ l. refl;
  }

  -- ## Arguments

  number-passed : (x : Bytes) (k : Class) → (facts.program.attribute x).class ≡ k → is_variable k ≡ true → is_numeric (facts.program.attribute x).basic ≡ true
      → expr_for names (pointer_term false (address_in v b x k)) ≡ Some (scalar_passed (standing_in k) x)
  unfolding address_in is_variable expr_for scalar_passed scalar_expr standing_in result_object variable_expr
  number-passed x class.Stored is variable numeric = let p = listed.stored x is numeric in ap (λ name. Some (address_expr (expr.Name name))) (variable_is s v x p.place p.placed)
  number-passed x class.Dummy is variable numeric = let p = listed.dummies x is numeric in ap (λ name. Some (expr.Name name)) (parameter_is s v x p.place p.placed)
  number-passed x class.Result is variable numeric = let r = (listed.results x is numeric).1 in ap (λ name. Some (address_expr (expr.Name name))) (result_is s v r.0 r.1)
  number-passed x other is variable numeric = absurd (cc)

  function-passed : (o : Option ℕ) → expr_of names (option_map (λ number. c.Cast (to.Function pointer.Unknown) (c.Routine number)) o) ≡ option_map procedure_expr (option_map (λ k. by_name (routine_name vs k)) o)
  unfolding expr_for procedure_expr
  function-passed None = refl
  function-passed (Some k) = refl

  procedure-by : (x : Bytes) (k : Class) → (facts.program.attribute x).class ≡ k → expr_of names (routine_term numbers x k (address_in v b x k)) ≡ procedure_passed (is_procedure_in k) (routine_in numbers vs x k)
  unfolding routine_term address_in procedure_passed is_procedure_in routine_in expr_for procedure_expr
  procedure-by x class.Procedure is = function-passed (numbers (Procedure x))
  procedure-by x class.DummyProcedure is = let p = listed.procedures x is in ap (λ name. Some (expr.Cast (to.Function pointer.Unknown) (expr.Name name))) (parameter_is s v x p.place p.placed)
  procedure-by x other is = refl

  name-by : (x : Bytes) (number bounds : Bool) → has_number w x ≡ number → has_shape (facts.program.attribute x).dimensions ≡ bounds
      → expr_of names (name_argument numbers w x number)
      ≡ (if number && not bounds then Some (scalar_passed (standing_in (facts.program.attribute x).class) x) else (if number && bounds then Some (variable_expr x)
      else procedure_passed (is_procedure_in (facts.program.attribute x).class) (routine_in numbers vs x (facts.program.attribute x).class)))
  unfolding name_argument has_number
  name-by x true false is none =
      let both = both_hold (is_variable (facts.program.attribute x).class) (is_numeric (facts.program.attribute x).basic) is in
      ap (λ t. expr_for names (pointer_term t (address_in v b x (facts.program.attribute x).class))) none ∙ number-passed x (facts.program.attribute x).class refl both.0 both.1
  name-by x true true is some =
      let both = both_hold (is_variable (facts.program.attribute x).class) (is_numeric (facts.program.attribute x).basic) is in
      ap (λ t. expr_for names (pointer_term t (address_in v b x (facts.program.attribute x).class))) some ∙ start-by x (facts.program.attribute x).class refl both.0 both.1 some
  name-by x false bounds is some = procedure-by x (facts.program.attribute x).class refl

  name-agrees : (x : Bytes) → expr_of names (name_argument numbers w x (has_number w x)) ≡ name_passed known x
  unfolding name_passed has_number
  name-agrees x = name-by x (is_variable (facts.program.attribute x).class && is_numeric (facts.program.attribute x).basic) (has_shape (facts.program.attribute x).dimensions) refl refl

  held-agrees : (p : Pure) → expr_of names (option_map address_of (held_term w p)) ≡ option_map address_expr (held_expr known p)
  held-agrees p = address-agrees names (held_term w p) ∙ ap (option_map address_expr) (held-known names w known label steps-known p)

  argument-agrees : (p : Pure) → expr_of names (argument_term numbers w p) ≡ argument_expr known p
  unfolding argument_term argument_expr held_expr
  argument-agrees (Constant d) = held-agrees (Constant d)
  argument-agrees (Temporary k) = held-agrees (Temporary k)
  argument-agrees (Name x) = name-agrees x
  argument-agrees (ElementOf x ps) = address-agrees names (place_term w (ElementOf x ps)) ∙ ap (option_map address_expr) (place-known names w known label steps-known (ElementOf x ps))
  argument-agrees p = refl

  argument-more : (p : Pure) (ts : Option (List Term)) (es : Option (List CExpr)) → exprs_of names ts ≡ es → exprs_of names (emit.one_more (argument_term numbers w p) ts) ≡ one_more (argument_expr known p) es
  argument-more p ts es others = more-agrees names (argument_term numbers w p) ts ∙ (λ i. one_more (argument-agrees p i) (others i))

  arguments-agree : (ps : Pures) → exprs_of names (argument_terms numbers w ps) ≡ argument_exprs known ps
  unfolding argument_terms argument_exprs exprs_for
  arguments-agree NoPure = refl
  arguments-agree (AndPure (Constant (IsLabel label)) ps) = arguments-agree ps
  arguments-agree (AndPure p ps) = argument-more p (argument_terms numbers w ps) (argument_exprs known ps) (arguments-agree ps)

  -- ## Callees

  direct-agrees : (o : Option ℕ) → option_and_then (callee_named names) (option_map flat.Direct o) ≡ option_map (λ k. by_name (routine_name vs k)) o
  unfolding callee_named
  direct-agrees None = refl
  direct-agrees (Some k) = refl

  callee-by : (x : Bytes) (k : Class) → (facts.program.attribute x).class ≡ k → option_and_then (callee_named names) (callee_for numbers x k (address_in v b x k)) ≡ routine_in numbers vs x k
  unfolding callee_for address_in routine_in callee_named
  callee-by x class.Procedure is = direct-agrees (numbers (Procedure x))
  callee-by x class.Result is = direct-agrees (numbers (Procedure x))
  callee-by x class.Unit is = direct-agrees (numbers (Procedure x))
  callee-by x class.DummyProcedure is = let p = listed.procedures x is in ap (λ name. Some (through name)) (parameter_is s v x p.place p.placed)
  callee-by x other is = refl

  callee-agrees : (x : Bytes) → option_and_then (callee_named names) (function_called numbers w x) ≡ known.routine x
  unfolding function_called
  callee-agrees x = callee-by x (facts.program.attribute x).class refl

  -- ## Returns

  result-agrees : (entries : List EntryPoint) → expr_of names (result_term w entries) ≡ given_expr known (result_in entries)
  unfolding result_term given_expr result_in
  result-agrees [] = refl
  result-agrees (entry ∷ []) = place-known names w known label steps-known (Name entry.name)
  result-agrees (entry ∷ one ∷ later) = refl

  back-agrees : (unit : UnitKind) → option_and_then (item_for names) (back_item w unit) ≡ return_step (given_expr known (giving_of_unit unit facts.program.entries))
  unfolding back_item item_for returned_by return_step given_expr giving_of_unit expr_for number_expr
  back-agrees MainProgram = refl
  back-agrees SubroutineUnit = refl
  back-agrees FunctionUnit = return-agrees names (result_term w facts.program.entries) ∙ ap return_step (result-agrees facts.program.entries)
  back-agrees BlockDataUnit = refl

  no-alternate : (entries : List EntryPoint) (o : Option CExpr) → None ≡ alternate_step (result_in entries) o
  unfolding alternate_step result_in
  no-alternate [] o = refl
  no-alternate (entry ∷ []) o = refl
  no-alternate (entry ∷ one ∷ later) o = refl

  back-by-agrees : (p : Pure) (unit : UnitKind) → option_and_then (item_for names) (back_by_item w p unit) ≡ alternate_step (giving_of_unit unit facts.program.entries) (value_expr known p)
  unfolding back_by_item alternate_step giving_of_unit
  back-by-agrees p MainProgram = refl
  back-by-agrees p SubroutineUnit = return-agrees names (value_term w p) ∙ ap return_step (value-known names w known label steps-known p)
  back-by-agrees p FunctionUnit = no-alternate facts.program.entries (value_expr known p)
  back-by-agrees p BlockDataUnit = refl

  -- ## Steps

  pub unit-step : (n : ℕ) (st : Step) → IsListed v n st → option_and_then (item_for names) (procedure_item numbers w (λ m. m) label n st) ≡ item_step known (kind n) n st
  unfolding procedure_item call_for_item item_step
  unit-step n (step.CallFor k callee ps) there =
      kept-agrees names (basic_wanted callee.want) (if_number (w.is_number k) (Some (c.Variable (w.naming.temporary k) ToNumber))) (function_called numbers w callee.name) (argument_terms numbers w ps)
      ∙ (λ i. call_for_step (wanted-agrees callee.want i) (temporary-known names w known label steps-known k i) (callee-agrees callee.name i) (arguments-agree ps i))
  unit-step n (step.CallSub k x ps) there = call-agrees names (function_called numbers w x) (argument_terms numbers w ps) ∙ (λ i. call_step (callee-agrees x i) (arguments-agree ps i))
  unit-step n step.Back there = back-agrees facts.program.kind
  unit-step n (step.BackBy p) there = back-by-agrees p facts.program.kind
  unit-step n (step.Acts (step.Starts way layout controls) ps m) there =
      step-known names w known label steps-known n (step.Acts (step.Starts way layout controls) ps m) (there.0, there.1, list_is s v n there.0 there.1)
  unit-step n (step.Halt text) there = step-known names w known label steps-known n (step.Halt text) (text_is s v n there.0 there.1 ∙ ap Some there.2)
  unit-step n st there = step-known names w known label steps-known n st tt

  -- ## Bounds that are kept

  pub bound-saved : (i : ℕ) (one : KeptBound) → slice_get v.bounds i ≡ Some one → option_and_then (item_for names) (saving_item w (record { object = first_bound v b + i; value = one.value })) ≡ bound_step known one
  unfolding saving_item bound_step
  bound-saved i one at =
      assigned-agrees names (first_bound v b + i) (value_term w one.value)
      ∙ (λ j. assign_by (Some (expr.Name (bound_is s v i one at j))) (value-known names w known label steps-known one.value j))

pub unit_emissions_agree : UnitEmissionsAgree
unit_emissions_agree vs s v facts numbers kind label n st owned before listed there = unit-step vs s v facts numbers kind label owned before listed n st there

pub unit_bounds_agree : UnitBoundsAgree
unit_bounds_agree vs s v facts numbers kind label i one owned before listed at = bound-saved vs s v facts numbers kind label owned before listed i one at
