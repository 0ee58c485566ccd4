-- The items of steps by names are those of their flat items, where what is known is what the names and the facts say. Main programs and the units that call
-- each other have this in common.
use Rattle.std.specs.Prelude.{◌≡◌, ℕ, zero, suc, ◌+◌, ◌-◌, ℤ, pos, Bool, true, false, ◌&&◌, List, [], ◌∷◌, map, length, Option, Some, None, option_map, option_and_then, slice_get, unwrap_or, codes, if◌then◌else◌}
use Rattle.std.proofs.Common.{refl, sym, ap, ◌∙◌}
use Rattle.main_file.specs.f_tree.Values.{Bytes, IsInt, IsLog, in_range}
use Rattle.main_file.specs.f_tree.Terms as fortran
use Rattle.main_file.specs.f_tree.Facts.{Bounds, Output, Listed, Controls}
use Rattle.main_file.specs.f_tree.CNames.{made_name, ControlList, ConstantOf}
use Rattle.main_file.specs.l_core.Pures.{Pure, Constant, Temporary, Load, Name, ElementOf, Pures, NoPure, AndPure}
use Rattle.main_file.specs.l_core.Steps as step
use Rattle.main_file.specs.l_core.Steps.{Step}
use Rattle.c_tree.specs.declared.types.CastType.TheVariants as to
use Rattle.c_tree.specs.declared.expression.CExpr.{CExpr}
use Rattle.c_tree.specs.declared.expression.CExpr.TheVariants as expr
use Rattle.c_tree.specs.declared.expression.UnaryOp.TheVariants as prefix
use Rattle.c_tree.specs.Access.{ToNumber}
use Rattle.c_tree.specs.Terms as c
use Rattle.c_tree.specs.Terms.{Term}
use Rattle.c_tree.specs.Flat.{Branch, Select, CaseAt}
use Rattle.c_tree.specs.Builtins.{builtin_names}
use Rattle.named_items.specs.c_structure.Expressions.{Names, number_expr, array_expr, expr_for, one_more, exprs_for}
use Rattle.main_file.specs.c_image.Elements.{quantity_term}
use Rattle.main_file.specs.c_emit.Numbers.{Writing, constant_value, if_number, value_term, place_term}
use Rattle.main_file.specs.c_emit.LibraryFunctions.{LibraryFunction, pow_ii, i_sign, i_dim, i_or, i_and, i_eor, i_not, i_shft, b_test, b_set, b_clr, library_function}
use Rattle.main_file.specs.c_emit.Types.{if_numeric, type_at, type_of}
use Rattle.main_file.specs.c_emit.Calls.{call_of, is_plain, start_on, start_item, if_held, constant_held, held_term, held_terms, computed_item, kind_number, item_by, takes_item, finish_item, stop_item, address_of, routine_of}
use Rattle.main_file.specs.c_emit.Flats.{assigned, jump_to, cases_to, cases_for, switch_to, flat_of}
use Rattle.main_file.specs.MainFile.{lower_of, size_of}
use Rattle.named_items.specs.declared.item.Case.{Case}
use Rattle.named_items.specs.declared.item.Item.{Item}
use Rattle.named_items.specs.declared.item.Item.TheVariants as item
use Rattle.named_items.specs.Items as named_items
use Rattle.named_items.specs.Items.{by_name, assign_by, set_call_by, case_of, item_for}
use Rattle.item_emission.specs.declared.known.Dimension.{Dimension}
use Rattle.item_emission.specs.declared.known.LowerBound.TheVariants as low
use Rattle.item_emission.specs.declared.known.Size.TheVariants as many
use Rattle.item_emission.specs.NamedEmission as named
use Rattle.item_emission.specs.NamedEmission.{Knowledge, constant_expr, datum_expr, dimension_at, lower_expr, size_expr, variable_expr, expr_if, temporary_expr, value_expr, place_expr, type_in, constant_object, list_object, datum_held, held_expr, held_exprs, computed_step, start_call, start_if, start_step, output_call, output_if, output_by, output_step, finish_step, stop_call, stop_step, branch_step, case_to, cases_from, select_step, label_cases, switch_step, return_step, acting_step, item_step, address_expr}
use Rattle.item_emission.specs.Agreeing.{dimension_of}
use Rattle.item_emission.proofs.TermNumbers.{constant-agrees}
use Rattle.item_emission.proofs.ValuesAgree.{IsKnownBy, expr_of, exprs_of, more-agrees, temporary-agrees, value-agrees, place-agrees}

-- a step whose control list and whose string have their names, and that is no call of a procedure and no return
abbrev pub IsNamedBy : Names → Writing → Knowledge → ℕ → Step → Type 0
IsNamedBy names w known n (step.Acts (step.Starts way layout controls) ps m) = (i : ℕ) × (known.list n ≡ Some i) × (names.object (w.library.list n) ≡ made_name (ControlList (suc i)))
IsNamedBy names w known n (step.Halt text) = names.string (w.library.text n) ≡ Some text
IsNamedBy names w known n (step.CallFor k callee ps) = ⊥
IsNamedBy names w known n (step.CallSub k x ps) = ⊥
IsNamedBy names w known n step.Back = ⊥
IsNamedBy names w known n (step.BackBy p) = ⊥
IsNamedBy names w known n st = Unit {0}

-- what is known is what the names and the facts say: of values, of types, of what holds constants, of functions of the library, and of labels
pub record StepsAreKnownBy (names : Names) (w : Writing) (known : Knowledge) (label : ℕ → Option ℕ) : Type 0 where
  pub values : IsKnownBy names w known
  pub basics : (x : Bytes) → (w.facts.program.attribute x).basic ≡ known.basic x
  pub has : (z : ℤ) → w.library.has z ≡ known.has z
  pub constants : (z : ℤ) → known.has z ≡ true → names.object (w.library.constant z) ≡ made_name (ConstantOf z)
  pub routines : (k : ℕ) → names.routine (w.library.own + k) ≡ unwrap_or (slice_get builtin_names k) []
  pub labels : (l : ℕ) → label l ≡ known.label l

-- ## Bounds

dimension-of : (bs : List Bounds) (k : ℕ) → slice_get (map dimension_of bs) k ≡ option_map dimension_of (slice_get bs k)
dimension-of [] k = refl
dimension-of (b ∷ bs) zero = refl
dimension-of (b ∷ bs) (suc k) = dimension-of bs k

abbrev no_dimension : Dimension
no_dimension = record { lower = low.Written (pos 0); size = many.Written 0 }

lower-by : (names : Names) (x : Bytes) (k : ℕ) (o : Option Bounds) → expr_for names (quantity_term (lower_of o)) ≡ lower_expr x k (unwrap_or (option_map dimension_of o) no_dimension).lower
unfolding lower_expr
lower-by names x k None = constant-agrees names (pos 0)
lower-by names x k (Some bounds) = constant-agrees names bounds.lower

size-by : (names : Names) (x : Bytes) (k : ℕ) (o : Option Bounds) → expr_for names (quantity_term (size_of o)) ≡ size_expr x k (unwrap_or (option_map dimension_of o) no_dimension).size
unfolding expr_for size_expr
size-by names x k None = refl
size-by names x k (Some bounds) = refl

pub lower-agrees : (names : Names) (x : Bytes) (bs : List Bounds) (k : ℕ) → expr_for names (quantity_term (lower_of (slice_get bs k))) ≡ lower_expr x k (dimension_at (map dimension_of bs) k).lower
unfolding dimension_at
lower-agrees names x bs k = lower-by names x k (slice_get bs k) ∙ ap (λ (o : Option Dimension). lower_expr x k (unwrap_or o no_dimension).lower) (sym (dimension-of bs k))

pub size-agrees : (names : Names) (x : Bytes) (bs : List Bounds) (k : ℕ) → expr_for names (quantity_term (size_of (slice_get bs k))) ≡ size_expr x k (dimension_at (map dimension_of bs) k).size
unfolding dimension_at
size-agrees names x bs k = size-by names x k (slice_get bs k) ∙ ap (λ (o : Option Dimension). size_expr x k (unwrap_or o no_dimension).size) (sym (dimension-of bs k))

-- ## Forms of options

assign-none : (o : Option CExpr) → assign_by o None ≡ None
unfolding assign_by
assign-none None = refl
assign-none (Some e) = refl

assign-agrees : (names : Names) (o p : Option Term) → option_and_then (item_for names) (assigned o p) ≡ assign_by (expr_of names o) (expr_of names p)
unfolding assigned item_for assign_by
assign-agrees names (Some t) (Some u) = refl
assign-agrees names (Some t) None = sym (assign-none (expr_for names t))
assign-agrees names None p = refl

branch-by : (on off : ℕ) (o : Option CExpr) → option_map (λ e. item.Branch e on off) o ≡ branch_step o on off
unfolding branch_step
branch-by on off None = refl
branch-by on off (Some e) = refl

branch-agrees : (names : Names) (on off : ℕ) (o : Option Term) → option_and_then (item_for names) (option_map (λ test. Branch test on off) o) ≡ branch_step (expr_of names o) on off
unfolding item_for branch_step
branch-agrees names on off None = refl
branch-agrees names on off (Some t) = branch-by on off (expr_for names t)

jump-agrees : (names : Names) (o : Option ℕ) → option_and_then (item_for names) (jump_to (λ m. m) o) ≡ option_map item.Jump o
unfolding item_for jump_to
jump-agrees names None = refl
jump-agrees names (Some m) = refl

cases-agree : (number n count : ℕ) → map case_of (cases_to (λ m. m) number n count) ≡ cases_from number n count
unfolding cases_to cases_from
cases-agree number n zero = refl
cases-agree number n (suc count) = ap (λ later. case_to number n ∷ later) (cases-agree (suc number) (suc n) count)

select-by : (cases : List Case) (otherwise : ℕ) (o : Option CExpr) → option_map (λ e. item.Select e cases otherwise) o ≡ select_step o cases otherwise
unfolding select_step
select-by cases otherwise None = refl
select-by cases otherwise (Some e) = refl

select-agrees : (names : Names) (cases : List CaseAt) (otherwise : ℕ) (o : Option Term)
    → option_and_then (item_for names) (option_map (λ value. Select value cases otherwise) o) ≡ select_step (expr_of names o) (map case_of cases) otherwise
unfolding item_for select_step
select-agrees names cases otherwise None = refl
select-agrees names cases otherwise (Some t) = select-by (map case_of cases) otherwise (expr_for names t)

address-before : (o : Option CExpr) (os : Option (List CExpr)) → one_more (option_map (expr.Unary prefix.Address) o) (option_map (map address_expr) os) ≡ option_map (map address_expr) (one_more o os)
unfolding one_more
address-before (Some e) (Some es) = refl
address-before (Some e) None = refl
address-before None os = refl

addresses-agree : (names : Names) (ts : List Term) → exprs_for names (map address_of ts) ≡ option_map (map address_expr) (exprs_for names ts)
unfolding exprs_for expr_for
addresses-agree names [] = refl
addresses-agree names (t ∷ ts) = ap (one_more (option_map (expr.Unary prefix.Address) (expr_for names t))) (addresses-agree names ts) ∙ address-before (expr_for names t) (exprs_for names ts)

call-of : (function : LibraryFunction) (o : Option CExpr) (os : Option (List CExpr)) → set_call_by o (by_name function.name) (option_map (map address_expr) os) ≡ computed_step o (Some function) os
unfolding set_call_by computed_step
call-of function (Some e) (Some es) = refl
call-of function (Some e) None = refl
call-of function None os = refl

no-call : (o : Option CExpr) (function : LibraryFunction) → None ≡ computed_step o (Some function) None
unfolding computed_step
no-call (Some e) function = refl
no-call None function = refl

no-function : (o : Option CExpr) (os : Option (List CExpr)) → None ≡ computed_step o None os
unfolding computed_step
no-function (Some e) (Some es) = refl
no-function (Some e) None = refl
no-function None os = refl

labels-agree : (n : ℕ) (labels : List ℕ) → map case_of (cases_for (λ m. m) n labels) ≡ label_cases n labels
unfolding cases_for label_cases
labels-agree n [] = refl
labels-agree n (label ∷ labels) = ap (λ later. case_to label n ∷ later) (labels-agree (suc n) labels)

switch-agrees : (names : Names) (n : ℕ) (labels : List ℕ) (o : Option Term) → option_and_then (item_for names) (switch_to (λ m. m) n labels o) ≡ switch_step n labels (expr_of names o)
unfolding switch_to switch_step
switch-agrees names n labels o =
    select-agrees names (cases_for (λ m. m) (suc n) labels) (suc n + length labels) o ∙ ap (λ cases. select_step (expr_of names o) cases (suc n + length labels)) (labels-agree (suc n) labels)

module _ (names : Names) (w : Writing) (known : Knowledge) (label : ℕ → Option ℕ) (agrees : StepsAreKnownBy names w known label) where
  pub value-known : (p : Pure) → expr_of names (value_term w p) ≡ value_expr known p
  value-known p = value-agrees names w known agrees.values p

  pub place-known : (p : Pure) → expr_of names (place_term w p) ≡ place_expr known p
  place-known p = place-agrees names w known agrees.values p

  pub temporary-known : (k : ℕ) → expr_of names (if_number (w.is_number k) (Some (c.Variable (w.naming.temporary k) ToNumber))) ≡ temporary_expr known k
  temporary-known k = temporary-agrees names w known agrees.values k

  -- ## Types, and what holds a value

  type-known : (n : ℕ) (p : Pure) → type_of w n p ≡ type_in known (w.kind n) p
  unfolding type_of type_at type_in named.type_at
  type-known n (Load (Name x)) = ap if_numeric (agrees.basics x)
  type-known n (Load (ElementOf x ps)) = ap if_numeric (agrees.basics x)
  type-known n (Load p) = refl
  type-known n p = refl

  constant-known : (z : ℤ) → expr_of names (if_held w z) ≡ named.constant_held known z
  unfolding if_held if_number named.constant_held expr_if constant_object expr_for
  constant-known z = ap (λ t. expr_of names (if_number t (Some (c.Variable (w.library.constant z) ToNumber)))) (agrees.has z) ∙ by (known.has z) refl
    where
      by : (t : Bool) → known.has z ≡ t → expr_of names (if_number t (Some (c.Variable (w.library.constant z) ToNumber))) ≡ expr_if t (Some (expr.Name (made_name (ConstantOf z))))
      by true h = ap (λ name. Some (expr.Name name)) (agrees.constants z h)
      by false h = refl

  pub held-known : (p : Pure) → expr_of names (held_term w p) ≡ held_expr known p
  unfolding held_term held_expr constant_held datum_held
  held-known (Constant (IsInt z)) = constant-known z
  held-known (Constant (IsLog true)) = constant-known (pos 1)
  held-known (Constant (IsLog false)) = constant-known (pos 0)
  held-known (Constant d) = refl
  held-known (Temporary k) = temporary-known k
  held-known (Load p) = place-known p
  held-known p = refl

  -- ## Calls

  start-on : (n i : ℕ) (t : Bool) → known.list n ≡ Some i → names.object (w.library.list n) ≡ made_name (ControlList (suc i)) → option_and_then (item_for names) (start_on w n t) ≡ start_if t (known.list n)
  unfolding start_on start_if start_call call_of item_for named_items.call_by exprs_for one_more expr_for list_object
  start-on n i true is called =
      (λ j. Some (item.Call (by_name (agrees.routines 14 j)) (address_expr (expr.Name (called j)) ∷ []))) ∙ sym (ap (start_if true) is)
  start-on n i false is called = refl

  start-known : (n i : ℕ) (controls : Controls) (ps : Pures) → known.list n ≡ Some i → names.object (w.library.list n) ≡ made_name (ControlList (suc i))
      → option_and_then (item_for names) (start_item w n controls ps) ≡ start_step known n controls ps
  unfolding start_item start_step
  start-known n i controls (AndPure (Constant (IsInt unit)) NoPure) is called = start-on n i (is_plain controls && in_range unit) is called
  start-known n i controls ps is called = refl

  first-holds : (s u : Bool) → s && u ≡ true → s ≡ true
  first-holds true u k = refl
  first-holds false u k = k

  second-holds : (s u : Bool) → s && u ≡ true → u ≡ true
  second-holds true u k = k
  second-holds false u k = absurd (cc)

  output-taken : (z : ℤ) (o : Option CExpr) → known.has z && known.has (pos 1) ≡ true →
      option_map (item.Call (by_name (names.routine (w.library.own + 21))))
      (one_more (Some (address_expr (expr.Name (names.object (w.library.constant z))))) (one_more (Some (address_expr (expr.Name (names.object (w.library.constant (pos 1))))))
      (one_more (option_map (expr.Cast to.Chars) (option_map (expr.Unary prefix.Address) o)) (one_more (option_map (expr.Cast to.Length) (Some expr.SizeInt)) (Some [])))))
      ≡ option_map (output_call z) o
  unfolding one_more output_call constant_object
  output-taken z None h = refl
  output-taken z (Some e) h =
      (λ j. Some (item.Call (by_name (agrees.routines 21 j))
      (address_expr (expr.Name (agrees.constants z (first-holds (known.has z) (known.has (pos 1)) h) j)) ∷ address_expr (expr.Name (agrees.constants (pos 1) (second-holds (known.has z) (known.has (pos 1)) h) j))
      ∷ expr.Cast to.Chars (address_expr e) ∷ expr.Cast to.Length expr.SizeInt ∷ [])))

  output-given : (z : ℤ) (o : Option CExpr) → known.has z && known.has (pos 1) ≡ true → output_by known (Some z) o ≡ option_map (output_call z) o
  unfolding output_by output_if
  output-given z None h = refl
  output-given z (Some e) h = ap (λ t. output_if t (output_call z e)) h

  output-refused : (z : ℤ) (o : Option CExpr) → known.has z && known.has (pos 1) ≡ false → None ≡ output_by known (Some z) o
  unfolding output_by output_if
  output-refused z None h = refl
  output-refused z (Some e) h = sym (ap (λ t. output_if t (output_call z e)) h)

  output-known : (number : Option ℤ) (o : Option Term) → option_and_then (item_for names) (item_by w number o) ≡ output_by known number (expr_of names o)
  unfolding item_by output_by call_of item_for named_items.call_by exprs_for expr_for
  output-known (Some z) (Some t) = ap outcome {x = w.library.has z && w.library.has (pos 1)} {y = known.has z && known.has (pos 1)} (λ j. agrees.has z j && agrees.has (pos 1) j) ∙ by (known.has z && known.has (pos 1)) refl
    where
      outcome : Bool → Option Item
      outcome s =
          option_and_then (item_for names) (if s then Some (call_of w (codes "do_lio")
          (address_of (c.Variable (w.library.constant z) ToNumber) ∷ address_of (c.Variable (w.library.constant (pos 1)) ToNumber)
          ∷ c.Cast to.Chars (address_of t) ∷ c.Cast to.Length c.Size ∷ [])) else None)

      by : (s : Bool) → known.has z && known.has (pos 1) ≡ s → outcome s ≡ output_by known (Some z) (expr_for names t)
      by true h = output-taken z (expr_for names t) h ∙ sym (output-given z (expr_for names t) h)
      by false h = output-refused z (expr_for names t) h
  output-known (Some z) None = refl
  output-known None o = refl

  takes-known : (n : ℕ) (ps : Pures) → option_and_then (item_for names) (takes_item w n ps) ≡ output_step known (w.kind n) ps
  unfolding takes_item output_step
  takes-known n NoPure = refl
  takes-known n (AndPure p NoPure) =
      output-known (option_and_then kind_number (type_of w n p)) (held_term w p)
      ∙ (λ j. output_by known (option_and_then kind_number (type-known n p j)) (held-known p j))
  takes-known n (AndPure p (AndPure q ps)) = refl

  finish-known : (ps : Pures) → option_and_then (item_for names) (finish_item w ps) ≡ finish_step ps
  unfolding finish_item finish_step call_of item_for named_items.call_by exprs_for
  finish-known NoPure = (λ j. Some (item.Call (by_name (agrees.routines 24 j)) []))
  finish-known (AndPure p ps) = refl

  stop-by : (text : Bytes) (o : Option CExpr) → option_map (item.Call (by_name (codes "s_stop"))) (one_more (Some (expr.Str text)) (one_more (option_map (expr.Cast to.Length) o) (Some []))) ≡ option_map (stop_call text) o
  unfolding one_more stop_call
  stop-by text None = refl
  stop-by text (Some e) = refl

  stop-known : (n : ℕ) (text : Bytes) → names.string (w.library.text n) ≡ Some text → item_for names (stop_item w n text) ≡ stop_step text
  unfolding stop_item stop_step call_of item_for named_items.call_by exprs_for expr_for array_expr
  stop-known n text is =
      (λ j. option_map (item.Call (by_name (agrees.routines 11 j))) (one_more (Some (array_expr (is j) (names.object (w.library.text n))))
      (one_more (option_map (expr.Cast to.Length) (number_expr (pos (length text)))) (Some []))))
      ∙ stop-by text (number_expr (pos (length text)))

  held-all-known : (ps : Pures) → exprs_of names (held_terms w ps) ≡ held_exprs known ps
  unfolding held_terms held_exprs exprs_for
  held-all-known NoPure = refl
  held-all-known (AndPure p ps) =
      more-agrees names (held_term w p) (held_terms w ps) ∙ (λ j. one_more (held-known p j) (held-all-known ps j))

  -- a function that has its name, of what is held
  called-by : (function : LibraryFunction) (o : Option Term) (os : Option (List Term)) → names.routine (routine_of w function.name) ≡ function.name
      → option_and_then (item_for names) (computed_item w o (Some function) os) ≡ computed_step (expr_of names o) (Some function) (exprs_of names os)
  unfolding computed_item computed_step item_for
  called-by function (Some t) (Some ts) is =
      (λ j. set_call_by (expr_for names t) (by_name (is j)) (addresses-agree names ts j)) ∙ call-of function (expr_for names t) (exprs_for names ts)
  called-by function (Some t) None is = no-call (expr_for names t) function
  called-by function None os is = refl

  none-called : (o : Option Term) (os : Option (List Term))
      → option_and_then (item_for names) (computed_item w o None os) ≡ computed_step (expr_of names o) None (exprs_of names os)
  unfolding computed_item
  none-called (Some t) (Some ts) = no-function (expr_for names t) (exprs_for names ts)
  none-called (Some t) None = no-function (expr_for names t) None
  none-called None os = no-function None (exprs_of names os)

  function-called : (f : fortran.Function) (o : Option Term) (os : Option (List Term))
      → option_and_then (item_for names) (computed_item w o (library_function f) os) ≡ computed_step (expr_of names o) (library_function f) (exprs_of names os)
  unfolding library_function
  function-called fortran.Power o os = called-by pow_ii o os (agrees.routines 4)
  function-called fortran.SignTransfer o os = called-by i_sign o os (agrees.routines 5)
  function-called fortran.PositiveDifference o os = called-by i_dim o os (agrees.routines 6)
  function-called fortran.InclusiveOr o os = called-by i_or o os (agrees.routines 35)
  function-called fortran.LogicalProduct o os = called-by i_and o os (agrees.routines 36)
  function-called fortran.ExclusiveOr o os = called-by i_eor o os (agrees.routines 37)
  function-called fortran.BitComplement o os = called-by i_not o os (agrees.routines 38)
  function-called fortran.BitShift o os = called-by i_shft o os (agrees.routines 39)
  function-called fortran.BitTest o os = called-by b_test o os (agrees.routines 40)
  function-called fortran.BitSet o os = called-by b_set o os (agrees.routines 41)
  function-called fortran.BitClear o os = called-by b_clr o os (agrees.routines 42)
  function-called f o os = none-called o os

  computed-known : (k : ℕ) (f : fortran.Function) (ps : Pures)
      → option_and_then (item_for names) (computed_item w (if_number (w.is_number k) (Some (c.Variable (w.naming.temporary k) ToNumber))) (library_function f) (held_terms w ps))
      ≡ computed_step (temporary_expr known k) (library_function f) (held_exprs known ps)
  computed-known k f ps =
      function-called f (if_number (w.is_number k) (Some (c.Variable (w.naming.temporary k) ToNumber))) (held_terms w ps)
      ∙ (λ j. computed_step (temporary-known k j) (library_function f) (held-all-known ps j))

  label-known : (l : ℕ) → expr_of names (constant_value (IsInt (pos l))) ≡ constant_expr (pos l)
  unfolding value_term value_expr datum_expr
  label-known l = value-known (Constant (IsInt (pos l)))

  pub step-known : (n : ℕ) (st : Step) → IsNamedBy names w known n st → option_and_then (item_for names) (flat_of w (λ m. m) label n st) ≡ item_step known (w.kind n) n st
  unfolding flat_of item_step acting_step item_for
  step-known n (step.Put target p) there =
      assign-agrees names (place_term w target) (value_term w p) ∙ (λ j. assign_by (place-known target j) (value-known p j))
  step-known n (step.PutLabel target l) there =
      assign-agrees names (place_term w target) (constant_value (IsInt (pos l))) ∙ (λ j. assign_by (place-known target j) (label-known l j))
  step-known n (step.Keep k p) there =
      assign-agrees names (if_number (w.is_number k) (Some (c.Variable (w.naming.temporary k) ToNumber))) (value_term w p)
      ∙ (λ j. assign_by (temporary-known k j) (value-known p j))
  step-known n (step.Compute k f ps) there = computed-known k f ps
  step-known n (step.Unless p m) there =
      branch-agrees names (suc n) (suc n + m) (value_term w p) ∙ ap (λ o. branch_step o (suc n) (suc n + m)) (value-known p)
  step-known n (step.AgainIf p m) there =
      branch-agrees names (n - m) (suc n) (value_term w p) ∙ ap (λ o. branch_step o (n - m) (suc n)) (value-known p)
  step-known n (step.Skip m) there = refl
  step-known n (step.Again m) there = refl
  step-known n (step.Jump l) there = jump-agrees names (label l) ∙ ap (option_map item.Jump) (agrees.labels l)
  step-known n (step.Select p count) there =
      select-agrees names (cases_to (λ m. m) 1 (suc n) count) (suc n + count) (value_term w p)
      ∙ (λ j. select_step (value-known p j) (cases-agree 1 (suc n) count j) (suc n + count))
  step-known n (step.JumpBy p labels) there = switch-agrees names n labels (place_term w p) ∙ ap (switch_step n labels) (place-known p)
  step-known n (step.Branch k count) there =
      select-agrees names (cases_to (λ m. m) 1 (suc n) count) (suc n + count) (value_term w (Temporary k))
      ∙ (λ j. select_step (value-known (Temporary k) j) (cases-agree 1 (suc n) count j) (suc n + count))
  step-known n (step.Way l) there = jump-agrees names (label l) ∙ ap (option_map item.Jump) (agrees.labels l)
  step-known n step.Pass there = refl
  step-known n (step.Acts (step.Starts Output Listed controls) ps m) there = start-known n there.0 controls ps there.1 there.2
  step-known n (step.Acts step.Takes ps m) there = takes-known n ps
  step-known n (step.Acts step.Finishes ps zero) there = finish-known ps
  step-known n (step.Halt text) there = stop-known n text there
  step-known n (step.CallFor k callee ps) there = absurd there
  step-known n (step.CallSub k x ps) there = absurd there
  step-known n step.Back there = absurd there
  step-known n (step.BackBy p) there = absurd there
  step-known n st there = refl
