-- The function of a unit has its items, those of what it keeps first, and its strings.
use Rattle.std.specs.Prelude.{◌≡◌, ℕ, suc, ◌+◌, ◌-◌, ◌≤◌, nat_eq, nat_le, nat_lt, Bool, true, false, not, ◌&&◌, List, [], ◌∷◌, ◌++◌, map, length, drop, position, Option, Some, None, option_map, unwrap_or, slice_get, codes}
use Rattle.std.proofs.Common.{refl, sym, ap, ◌∙◌, subst, arith}
use Rattle.std.proofs.lemmas.Bool.{and_from, lt-ltb, le-leb}
use Rattle.std.proofs.lemmas.List.{append_assoc, length-append}
use Rattle.unit_places.specs.f_tree.declared.names.Basic.{Basic}
use Rattle.unit_places.specs.f_tree.declared.names.Class.{Class}
use Rattle.unit_places.specs.f_tree.declared.names.Class.TheVariants as class
use Rattle.unit_places.specs.f_tree.Terms as fortran
use Rattle.unit_places.specs.f_tree.Values.{Bytes, IsLabel}
use Rattle.unit_places.specs.f_tree.World.{Procedure}
use Rattle.unit_places.specs.l_core.Pures.{Pure, Constant, Temporary, Name, ElementOf, Pures, NoPure, AndPure}
use Rattle.unit_places.specs.l_core.Steps.{Starts, Takes, Finishes, Step, Compute, CallFor, CallSub, Halt, Acts, Text}
use Rattle.unit_places.specs.c_tree.declared.file.CFunction.{CFunction}
use Rattle.unit_places.specs.c_tree.Access.{ToNumber, ToChar, ToPointer, ToFunction}
use Rattle.unit_places.specs.c_tree.Terms as c
use Rattle.unit_places.specs.c_tree.Terms.{Term}
use Rattle.unit_places.specs.c_tree.Flat as flat
use Rattle.unit_places.specs.c_tree.Flat.{Flat}
use Rattle.unit_places.specs.c_tree.Drafts.{Scope}
use Rattle.unit_places.specs.c_tree.FlatForm.{whole_body}
use Rattle.unit_places.specs.c_tree.Linking.{Routines, file_scope, strings_of, linked_function}
use Rattle.unit_places.specs.c_image.Addresses.{Address, Alone, Through, number_term}
use Rattle.unit_places.specs.c_structure.Expressions.{Names, strings_in, strings_in_all}
use Rattle.unit_places.specs.c_structure.Expressions as written
use Rattle.unit_places.specs.c_structure.Statements.{Outline, strings_of_item, strings_of_items}
use Rattle.unit_places.specs.c_structure_laws.Fitting.{KnowsCallee, KnowsItems, KnowsArray, AreNumbered as AreInOrder, AreBytesOf}
use Rattle.unit_places.proofs.c_structure_laws.DrawnExpressions.{bytes_count, mapped_by}
use Rattle.unit_places.specs.c_emit.Numbers.{Writing, one_more, has_number, has_shape, is_scalar, is_array, value_term, place_term}
use Rattle.unit_places.specs.c_emit.LibraryFunctions.{library_function}
use Rattle.unit_places.specs.c_emit.Calls.{held_term, address_of}
use Rattle.unit_places.specs.linking_laws.Linked as linked
use Rattle.unit_places.specs.linking_laws.Linked.{scope_of}
use Rattle.unit_places.proofs.linking_laws.Places.{some_same, taken, within}
use Rattle.unit_places.proofs.linking_laws.BuiltCode.{whole_is, built_fit, code_is_theirs, strings_are_theirs}
use Rattle.unit_places.specs.emitted_names.KnownNames.{IsPlain, array_of, StartIsPlain, CallsFunction}
use Rattle.unit_places.proofs.emitted_names.TermNames.{value_plain, target_plain}
use Rattle.unit_places.proofs.emitted_names.ItemNames.{IsPlainItem, address_plain, held_is}
use Rattle.unit_places.specs.procedure_emission.bound_items.BoundItems.{saving_item}
use Rattle.unit_places.specs.procedure_emission.ProcedureItems.{Numbers, pointer_term, procedure_argument, routine_term, name_argument, argument_term, argument_terms, callee_for, function_called, procedure_item}
use Rattle.unit_places.specs.main_file.MainItems.{stops_from}
use Rattle.unit_places.proofs.main_file_laws.BuiltItems.{AreBelow, none_below, below_next, below_both, place_behind, before_by}
use Rattle.unit_places.specs.unit_file.UnitFile.{KeptBound, Inventory, Bases, WrittenUnit, unit_function, first_string, first_parameter, first_bound, parameter_object, result_object, place_or_none, place_of_variable, place_of_string, address_in}
use Rattle.unit_places.specs.unit_file.UnitNames.{string_at}
use Rattle.unit_places.specs.unit_file.UnitSavings.{savings_from, savings_of}
use Rattle.unit_places.specs.unit_sites.UnitSites.{inventories, Site}
use Rattle.unit_places.specs.UnitPlaces.{file_with}
use Rattle.unit_places.proofs.Declared.{unit_strings, unit_statics_count}
use Rattle.unit_file_laws.specs.KnownUnits.{NamesDiffer, NamesAreListed, unit_writing, unit_names, scope_in, UnitIsKnown}
use Rattle.unit_file_laws.specs.ProcedureNames.{ArePlain, KnowsCall, KnowsUnitStep}
use Rattle.unit_file_laws.specs.BuiltUnits.{unit_items, saving_items, whole_items, procedure_called, procedure_passed, procedures_passed, procedures_named, AreDeclared, FunctionIsCalled, IsListed, AreListed, IsUnitBuilt, AreNumbered, HasItsItems, UnitsHaveTheirItems}
use Rattle.unit_file_laws.proofs.Known.{bound_plain, unit_files_are_known}
use Rattle.unit_file_laws.proofs.CallNames.{procedure_names_are_known}
use Rattle.unit_file_laws.proofs.Passed.{passed, listed_behind}

-- ## Strings

-- strings that are told by numbers one after the other are those that are told for these
strings_same : (string : ℕ → Option (List ℕ)) (texts : ℕ → List ℕ) (first : ℕ) (ss : List (List ℕ)) (ks ns : List ℕ) → map Some ss ≡ map string ks → AreInOrder first ks → length ks ≡ length ns
    → ((i n : ℕ) → slice_get ns i ≡ Some n → string (first + i) ≡ Some (texts n)) → ss ≡ map texts ns
strings_same string texts first [] [] [] same order long told = refl
strings_same string texts first [] [] (n ∷ ns) same order long told = absurd (cc)
strings_same string texts first [] (k ∷ ks) ns same order long told = absurd (cc)
strings_same string texts first (s ∷ ss) [] ns same order long told = absurd (cc)
strings_same string texts first (s ∷ ss) (k ∷ ks) [] same order long told = absurd (cc)
strings_same string texts first (s ∷ ss) (k ∷ ks) (n ∷ ns) same order long told =
    let one : Some s ≡ string k = cc in
    let rest : map Some ss ≡ map string ks = cc in
    let shorter : length ks ≡ length ns = cc in
    let here : string k ≡ Some (texts n) = ap string {x = k} {y = first + 0} (let is = order.0 in omega (arith, is)) ∙ told 0 n refl in
    (λ i. some_same s (texts n) (one ∙ here) i
    ∷ strings_same string texts (first + 1) ss ks ns rest order.1 shorter (λ j m at. ap string {x = first + 1 + j} {y = first + suc j} (omega arith) ∙ told (suc j) m at) i)

-- ## Declared procedures

first_declared : (numbers : Numbers) (vs : List Inventory) (v : Inventory) (xs ys : List Bytes) → AreDeclared numbers vs v (xs ++ ys) → AreDeclared numbers vs v xs
first_declared numbers vs v [] ys are = tt
first_declared numbers vs v (x ∷ xs) ys are = (are.0, first_declared numbers vs v xs ys are.1)

last_declared : (numbers : Numbers) (vs : List Inventory) (v : Inventory) (xs ys : List Bytes) → AreDeclared numbers vs v (xs ++ ys) → AreDeclared numbers vs v ys
last_declared numbers vs v [] ys are = are
last_declared numbers vs v (x ∷ xs) ys are = last_declared numbers vs v xs ys are.1

-- an address is that of an object, or of what a parameter points to
data IsSimple (a : Address) : Type 0 where
  by_object : (object : ℕ) → Alone object ≡ a → IsSimple a
  by_parameter : (parameter : ℕ) → Through parameter ≡ a → IsSimple a

simple_address : (v : Inventory) (b : Bases) (x : Bytes) (k : Class) → IsSimple (address_in v b x k)
unfolding address_in
simple_address v b x class.Dummy = by_parameter (parameter_object v b x) refl
simple_address v b x class.DummyProcedure = by_parameter (parameter_object v b x) refl
simple_address v b x class.Result = by_object (result_object v b) refl
simple_address v b x other = by_object (b.function + place_or_none (place_of_variable v x)) refl

pointed_plain : (scope : Scope) (names : Names) (parameter : ℕ) → IsPlain scope names (number_term (Through parameter)) → IsPlain scope names (c.Variable parameter (ToPointer ToNumber))
unfolding strings_in
pointed_plain scope names parameter is = record { knows = is.knows; no_strings = refl }

-- what is said of the steps of a text and of what its function has, whatever statements that has, if they have as many strings
pub record AreEmitted (numbers : Numbers) (ws : List WrittenUnit) (s : Site) (w : WrittenUnit) (u : Text) (kind : ℕ → ℕ → Option Basic) (all : List Flat) : Type 0 where
  pub differ : NamesDiffer s.constants w.inventory
  pub names_listed : NamesAreListed w.inventory u.facts
  pub listed : AreListed numbers (inventories ws) u.facts w.inventory 0 u.steps
  pub stops : w.inventory.strings ≡ stops_from 0 u.steps
  pub emitted : whole_items numbers (unit_writing s w u.facts kind) u.position (savings_of w.inventory s.bases) u.steps ≡ Some all
  pub as_many : length (whole_body w.body).items.strings ≡ length w.inventory.strings

module _ (routines : Routines) (objects : List ℕ → Option ℕ) (functions : List CFunction) (numbers : Numbers) (ws : List WrittenUnit) (s : Site) (w : WrittenUnit) (u : Text) (kind : ℕ → ℕ → Option Basic) (all : List Flat)
    (owned : s.bases.own ≡ length ws) (constants_before : s.bases.file + length s.constants ≤ s.bases.function) (numbered : AreNumbered routines numbers ws w.inventory) (is : AreEmitted numbers ws s w u kind all) where
  abbrev v : Inventory
  v = w.inventory

  abbrev b : Bases
  b = s.bases

  abbrev vs : List Inventory
  vs = inventories ws

  abbrev writing : Writing
  writing = unit_writing s w u.facts kind

  abbrev names : Names
  names = unit_names ws s w

  abbrev scope : Scope
  scope = scope_in routines objects functions s w

  known : UnitIsKnown routines objects functions ws s w u.facts kind
  known = unit_files_are_known routines objects functions ws s w u.facts kind owned constants_before is.differ is.names_listed is.as_many

  -- ## Procedures

  routine_known : (x : Bytes) (k : ℕ) → AreDeclared numbers vs v (x ∷ []) → numbers (Procedure x) ≡ Some k → scope (names.routine k) ≡ c.Routine k
  routine_known x k declared number = let listed = declared.0 k number in known.routines listed.0 k listed.1 (numbered.own (Procedure x) k number)

  direct_known : (x : Bytes) (callee : flat.Callee) → AreDeclared numbers vs v (x ∷ []) → option_map flat.Direct (numbers (Procedure x)) ≡ Some callee → KnowsCallee scope names callee
  direct_known x callee declared h =
      let m = mapped_by flat.Direct (numbers (Procedure x)) callee h in
      subst (KnowsCallee scope names) m.is (routine_known x m.one declared m.one_is)

  callee_by : (x : Bytes) (k : Class) (a : Address) (callee : flat.Callee) → (u.facts.program.attribute x).class ≡ k → writing.naming.address x ≡ a → AreDeclared numbers vs v (procedure_called k x) → callee_for numbers x k a ≡ Some callee
      → KnowsCallee scope names callee
  unfolding callee_for procedure_called
  callee_by x class.Procedure a callee is' at declared h = direct_known x callee declared h
  callee_by x class.Result a callee is' at declared h = direct_known x callee declared h
  callee_by x class.Unit a callee is' at declared h = direct_known x callee declared h
  callee_by x class.DummyProcedure (Through parameter) callee is' at declared h =
      subst (KnowsCallee scope names) (some_same (flat.Through (c.Variable parameter ToFunction)) callee h) (known.pointers x parameter is' at)
  callee_by x class.DummyProcedure a callee is' at declared h = absurd (cc)
  callee_by x other a callee is' at declared h = absurd (cc)

  callee_known : (x : Bytes) (callee : flat.Callee) → AreDeclared numbers vs v (procedure_called (u.facts.program.attribute x).class x) → function_called numbers writing x ≡ Some callee → KnowsCallee scope names callee
  unfolding function_called
  callee_known x callee declared h = callee_by x (u.facts.program.attribute x).class (writing.naming.address x) callee refl refl declared h

  -- ## Arguments

  passed_plain : (function : Term) → IsPlain scope names function → IsPlain scope names (procedure_argument function)
  unfolding strings_in
  passed_plain function is' = record { knows = is'.knows; no_strings = is'.no_strings }

  routine_plain : (k : ℕ) → scope (names.routine k) ≡ c.Routine k → IsPlain scope names (c.Routine k)
  unfolding strings_in
  routine_plain k stands = record { knows = stands; no_strings = refl }

  pointer_plain : (parameter : ℕ) → scope (names.object parameter) ≡ c.Variable parameter ToFunction → IsPlain scope names (c.Variable parameter ToFunction)
  unfolding strings_in
  pointer_plain parameter stands = record { knows = stands; no_strings = refl }

  routine_by : (x : Bytes) (k : Class) (a : Address) (term : Term) → (u.facts.program.attribute x).class ≡ k → writing.naming.address x ≡ a → AreDeclared numbers vs v (procedure_passed k x) → routine_term numbers x k a ≡ Some term
      → IsPlain scope names term
  unfolding routine_term procedure_passed
  routine_by x class.Procedure a term is' at declared h =
      let m = mapped_by (λ number. procedure_argument (c.Routine number)) (numbers (Procedure x)) term h in
      subst (IsPlain scope names) m.is (passed_plain (c.Routine m.one) (routine_plain m.one (routine_known x m.one declared m.one_is)))
  routine_by x class.DummyProcedure (Through parameter) term is' at declared h =
      subst (IsPlain scope names) (some_same (procedure_argument (c.Variable parameter ToFunction)) term h) (passed_plain (c.Variable parameter ToFunction) (pointer_plain parameter (known.pointers x parameter is' at)))
  routine_by x class.DummyProcedure a term is' at declared h = absurd (cc)
  routine_by x other a term is' at declared h = absurd (cc)

  both_so : (p q : Bool) → p ≡ true → q ≡ true → p && q ≡ true
  both_so p q one other = and_from p q one other

  scalar_known : (x : Bytes) → has_number writing x ≡ true → has_shape (u.facts.program.attribute x).dimensions ≡ false → IsPlain scope names (number_term (writing.naming.address x))
  unfolding is_scalar
  scalar_known x number none = known.names.scalars x (both_so (has_number writing x) (not (has_shape (u.facts.program.attribute x).dimensions)) number (ap not none))

  array_known : (x : Bytes) → has_number writing x ≡ true → has_shape (u.facts.program.attribute x).dimensions ≡ true → StartIsPlain scope names (array_of (writing.naming.address x))
  unfolding is_array
  array_known x number some = known.names.arrays x (both_so (has_number writing x) (has_shape (u.facts.program.attribute x).dimensions) number some)

  -- a variable or an array of numbers by a pointer to it
  pointer_by : (x : Bytes) (array : Bool) → has_number writing x ≡ true → has_shape (u.facts.program.attribute x).dimensions ≡ array → IsSimple (writing.naming.address x) → IsPlain scope names (pointer_term array (writing.naming.address x))
  pointer_by x true number some (by_object object at) =
      subst (λ a. IsPlain scope names (pointer_term true a)) at (subst (λ a. StartIsPlain scope names (array_of a)) (sym at) (array_known x number some))
  pointer_by x true number some (by_parameter parameter at) =
      subst (λ a. IsPlain scope names (pointer_term true a)) at (subst (λ a. StartIsPlain scope names (array_of a)) (sym at) (array_known x number some))
  pointer_by x false number none (by_object object at) =
      subst (λ a. IsPlain scope names (pointer_term false a)) at
      (address_plain scope names (number_term (Alone object)) (subst (λ a. IsPlain scope names (number_term a)) (sym at) (scalar_known x number none)))
  pointer_by x false number none (by_parameter parameter at) =
      subst (λ a. IsPlain scope names (pointer_term false a)) at
      (pointed_plain scope names parameter (subst (λ a. IsPlain scope names (number_term a)) (sym at) (scalar_known x number none)))

  name_plain : (x : Bytes) (number : Bool) (term : Term) → has_number writing x ≡ number → AreDeclared numbers vs v (procedure_passed (u.facts.program.attribute x).class x) → name_argument numbers writing x number ≡ Some term → IsPlain scope names term
  unfolding name_argument
  name_plain x true term is' declared h =
      subst (IsPlain scope names) (some_same (pointer_term (has_shape (u.facts.program.attribute x).dimensions) (writing.naming.address x)) term h)
      (pointer_by x (has_shape (u.facts.program.attribute x).dimensions) is' refl (simple_address v b x (u.facts.program.attribute x).class))
  name_plain x false term is' declared h = routine_by x (u.facts.program.attribute x).class (writing.naming.address x) term refl refl declared h

  addressed_plain : (x : Option Term) (term : Term) → option_map address_of x ≡ Some term → ((t : Term) → x ≡ Some t → IsPlain scope names t) → IsPlain scope names term
  addressed_plain x term h one = let m = mapped_by address_of x term h in subst (IsPlain scope names) m.is (address_plain scope names m.one (one m.one m.one_is))

  -- the procedures that an argument passes
  argument_plain : (p : Pure) (ps : Pures) (term : Term) → AreDeclared numbers vs v (procedures_passed u.facts (AndPure p ps)) → argument_term numbers writing p ≡ Some term → IsPlain scope names term
  unfolding argument_term procedures_passed
  argument_plain (Constant d) ps term declared h = addressed_plain (held_term writing (Constant d)) term h (held_is scope names writing known.names (Constant d))
  argument_plain (Temporary k) ps term declared h = addressed_plain (held_term writing (Temporary k)) term h (held_is scope names writing known.names (Temporary k))
  argument_plain (Name x) ps term declared h =
      name_plain x (has_number writing x) term refl (first_declared numbers vs v (procedure_passed (u.facts.program.attribute x).class x) (procedures_passed u.facts ps) declared) h
  argument_plain (ElementOf x qs) ps term declared h = addressed_plain (place_term writing (ElementOf x qs)) term h (target_plain scope names writing known.names (ElementOf x qs))
  argument_plain p ps term declared h = absurd (cc)

  -- and those behind it
  later_declared : (p : Pure) (ps : Pures) → AreDeclared numbers vs v (procedures_passed u.facts (AndPure p ps)) → AreDeclared numbers vs v (procedures_passed u.facts ps)
  unfolding procedures_passed
  later_declared (Name x) ps declared = last_declared numbers vs v (procedure_passed (u.facts.program.attribute x).class x) (procedures_passed u.facts ps) declared
  later_declared p ps declared = declared

  more_plain : (x : Option Term) (xs : Option (List Term)) (ts : List Term) → one_more x xs ≡ Some ts → ((t : Term) → x ≡ Some t → IsPlain scope names t) → ((later : List Term) → xs ≡ Some later → ArePlain scope names later) → ArePlain scope names ts
  unfolding one_more strings_in_all
  more_plain (Some t) (Some later) ts h one others =
      let first = one t refl in
      let rest = others later refl in
      subst (ArePlain scope names) (some_same (t ∷ later) ts h) (record { knows = (first.knows, rest.knows); no_strings = (λ i. first.no_strings i ++ rest.no_strings i) })
  more_plain (Some t) None ts h one others = absurd (cc)
  more_plain None xs ts h one others = absurd (cc)

  argument_more : (p : Pure) (ps : Pures) (xs : Option (List Term)) (ts : List Term) → AreDeclared numbers vs v (procedures_passed u.facts (AndPure p ps)) → one_more (argument_term numbers writing p) xs ≡ Some ts
      → ((later : List Term) → xs ≡ Some later → ArePlain scope names later) → ArePlain scope names ts
  argument_more p ps xs ts declared h others = more_plain (argument_term numbers writing p) xs ts h (λ t at. argument_plain p ps t declared at) others

  arguments_plain : (ps : Pures) (ts : List Term) → AreDeclared numbers vs v (procedures_passed u.facts ps) → argument_terms numbers writing ps ≡ Some ts → ArePlain scope names ts
  unfolding argument_terms strings_in_all
  arguments_plain NoPure ts declared h = subst (ArePlain scope names) (some_same [] ts h) (record { knows = tt; no_strings = refl })
  arguments_plain (AndPure (Constant (IsLabel label)) ps) ts declared h = arguments_plain ps ts (later_declared (Constant (IsLabel label)) ps declared) h
  arguments_plain (AndPure p ps) ts declared h = argument_more p ps (argument_terms numbers writing ps) ts declared h (λ later at. arguments_plain ps later (later_declared p ps declared) at)

  call_known : (x : Bytes) (ps : Pures) → AreDeclared numbers vs v (procedures_named u.facts x ps) → KnowsCall scope names numbers writing x ps
  unfolding procedures_named
  call_known x ps declared = record {
    callee = λ callee h. callee_known x callee (first_declared numbers vs v (procedure_called (u.facts.program.attribute x).class x) (procedures_passed u.facts ps) declared) h;
    arguments = λ ts h. arguments_plain ps ts (last_declared numbers vs v (procedure_called (u.facts.program.attribute x).class x) (procedures_passed u.facts ps) declared) h;
  }

  -- ## Steps

  -- the string with a number
  string_told : (i n : ℕ) → slice_get v.strings i ≡ Some n → string_at v b (first_string v b + i) ≡ Some (v.texts n)
  unfolding string_at
  string_told i n at =
      let less = within v.strings i n at in
      taken (nat_le (first_string v b) (first_string v b + i) && nat_lt (first_string v b + i) (first_parameter v b)) (Some (v.texts (unwrap_or (slice_get v.strings ((first_string v b + i) - first_string v b)) 0))) None
      (both_so (nat_le (first_string v b) (first_string v b + i)) (nat_lt (first_string v b + i) (first_parameter v b)) (le-leb (first_string v b) (first_string v b + i) (omega arith))
      (lt-ltb (first_string v b + i) (first_parameter v b) (omega (arith, less))))
      ∙ ap (λ k. Some (v.texts (unwrap_or (slice_get v.strings k) 0))) {x = (first_string v b + i) - first_string v b} {y = i} (omega arith) ∙ ap (λ found. Some (v.texts (unwrap_or found 0))) at

  -- the string of a step
  record HasString (n : ℕ) : Type 0 where
    place : ℕ
    placed : place_of_string v n ≡ Some place
    bytes : List ℕ
    string : string_at v b (first_string v b + place) ≡ Some bytes

  -- a function of numbers of the library
  function_known : (f : fortran.Function) → FunctionIsCalled v (library_function f) → CallsFunction scope names writing (library_function f)
  unfolding library_function
  function_known fortran.Power listed = known.calls listed.0 4 (codes "pow_ii") listed.1 refl (numbered.library (codes "pow_ii") 4 listed refl)
  function_known fortran.SignTransfer listed = known.calls listed.0 5 (codes "i_sign") listed.1 refl (numbered.library (codes "i_sign") 5 listed refl)
  function_known fortran.PositiveDifference listed = known.calls listed.0 6 (codes "i_dim") listed.1 refl (numbered.library (codes "i_dim") 6 listed refl)
  function_known fortran.InclusiveOr listed = known.calls listed.0 35 (codes "i_or") listed.1 refl (numbered.library (codes "i_or") 35 listed refl)
  function_known fortran.LogicalProduct listed = known.calls listed.0 36 (codes "i_and") listed.1 refl (numbered.library (codes "i_and") 36 listed refl)
  function_known fortran.ExclusiveOr listed = known.calls listed.0 37 (codes "i_eor") listed.1 refl (numbered.library (codes "i_eor") 37 listed refl)
  function_known fortran.BitComplement listed = known.calls listed.0 38 (codes "i_not") listed.1 refl (numbered.library (codes "i_not") 38 listed refl)
  function_known fortran.BitShift listed = known.calls listed.0 39 (codes "i_shft") listed.1 refl (numbered.library (codes "i_shft") 39 listed refl)
  function_known fortran.BitTest listed = known.calls listed.0 40 (codes "b_test") listed.1 refl (numbered.library (codes "b_test") 40 listed refl)
  function_known fortran.BitSet listed = known.calls listed.0 41 (codes "b_set") listed.1 refl (numbered.library (codes "b_set") 41 listed refl)
  function_known fortran.BitClear listed = known.calls listed.0 42 (codes "b_clr") listed.1 refl (numbered.library (codes "b_clr") 42 listed refl)
  function_known f listed = tt

  knows_step : (n : ℕ) (st : Step) → IsListed numbers vs u.facts v n st → ((text : List ℕ) → st ≡ Halt text → HasString n) → KnowsUnitStep scope names numbers writing n st
  knows_step n (CallFor k callee ps) listed stop = call_known callee.name ps listed
  knows_step n (CallSub k x ps) listed stop = call_known x ps listed
  knows_step n (Acts (Starts way layout controls) ps m) listed stop =
      (known.calls listed.0.0 14 (codes "s_wsle") listed.0.1 refl (numbered.library (codes "s_wsle") 14 listed.0 refl), known.lists n listed.1.0 listed.1.1)
  knows_step n (Acts Takes ps m) listed stop = known.calls listed.0 21 (codes "do_lio") listed.1 refl (numbered.library (codes "do_lio") 21 listed refl)
  knows_step n (Acts Finishes ps m) listed stop = known.calls listed.0 24 (codes "e_wsle") listed.1 refl (numbered.library (codes "e_wsle") 24 listed refl)
  knows_step n (Halt text) listed stop =
      let told = stop text refl in (
        known.calls listed.0 11 (codes "s_stop") listed.1 refl (numbered.library (codes "s_stop") 11 listed refl),
        subst (λ p. KnowsArray scope (names.object (first_string v b + place_or_none p)) (string_at v b (first_string v b + place_or_none p)) (first_string v b + place_or_none p) ToChar) (sym told.placed)
            (subst (λ found. KnowsArray scope (names.object (first_string v b + told.place)) found (first_string v b + told.place) ToChar) (sym told.string) refl),
      )
  knows_step n (Compute k f ps) listed stop = function_known f listed
  knows_step n st listed stop = tt

  -- items of steps from a position on: known, and their strings numbered from one on, one for each STOP
  pub record AreNumberedItems (before : List ℕ) (n : ℕ) (steps : List Step) (items : List Flat) : Type 0 where
    pub knows : KnowsItems scope names items
    pub in_order : AreInOrder (first_string v b + length before) (strings_of_items names items)
    pub counted : length (strings_of_items names items) ≡ length (stops_from n steps)

  step_known : (n : ℕ) (before : List ℕ) (st : Step) (later : List Step) (item : Flat) (laters : List Flat) → v.strings ≡ before ++ stops_from n (st ∷ later) → AreBelow n before → IsListed numbers vs u.facts v n st
      → procedure_item numbers writing (λ m. m) u.position n st ≡ Some item
      → ((more : List ℕ) → v.strings ≡ more ++ stops_from (suc n) later → AreBelow (suc n) more → AreNumberedItems more (suc n) later laters) → AreNumberedItems before n (st ∷ later) (item ∷ laters)
  unfolding stops_from strings_of_items strings_in written.string_at
  step_known n before (Halt text) later item laters strings below listed h rest =
      let place : place_of_string v n ≡ Some (length before) = ap (position (nat_eq n)) strings ∙ place_behind n before (stops_from (suc n) later) below in
      let here : slice_get v.strings (length before) ≡ Some n = ap (λ ks. slice_get ks (length before)) strings ∙ at_back before n (stops_from (suc n) later) in
      let string : string_at v b (first_string v b + length before) ≡ Some (v.texts n) = string_told (length before) n here in
      let known_item = procedure_names_are_known scope names numbers writing (λ m. m) u.position n (Halt text) item known.names
      (knows_step n (Halt text) listed (λ t same. record { place = length before; placed = place; bytes = v.texts n; string = string })) h in
      let r = rest (before ++ n ∷ []) (strings ∙ sym (append_assoc before (n ∷ []) (stops_from (suc n) later))) (below_both n before below) in
      let longer = length-append before (n ∷ []) in
      let next : first_string v b + length (before ++ n ∷ []) ≡ first_string v b + length before + 1 = omega (arith, longer) in
      let one : strings_of_item names item ≡ (first_string v b + length before) ∷ [] =
      known_item.strings ∙ ap (λ p. written.string_at (string_at v b (first_string v b + place_or_none p)) (first_string v b + place_or_none p)) place
      ∙ ap (λ found. written.string_at found (first_string v b + length before)) string in
      record {
        knows = (known_item.knows, r.knows);
        in_order = subst (λ ks. AreInOrder (first_string v b + length before) (ks ++ strings_of_items names laters)) (sym one) (refl, subst (λ k. AreInOrder k (strings_of_items names laters)) next r.in_order);
        counted = (λ i. length (one i ++ strings_of_items names laters)) ∙ ap suc r.counted;
      }
    where
      at_back : (xs : List ℕ) (y : ℕ) (ys : List ℕ) → slice_get (xs ++ y ∷ ys) (length xs) ≡ Some y
      at_back [] y ys = refl
      at_back (x ∷ xs) y ys = at_back xs y ys
  step_known n before st later item laters strings below listed h rest =
      let known_item = procedure_names_are_known scope names numbers writing (λ m. m) u.position n st item known.names (knows_step n st listed (λ t same. absurd (cc))) h in
      let r = rest before strings (below_next n before below) in
      record {
        knows = (known_item.knows, r.knows);
        in_order = subst (λ ks. AreInOrder (first_string v b + length before) (ks ++ strings_of_items names laters)) (sym known_item.strings) r.in_order;
        counted = (λ i. length (known_item.strings i ++ strings_of_items names laters)) ∙ r.counted;
      }

  items_known : (n : ℕ) (before : List ℕ) (steps : List Step) (items : List Flat) → v.strings ≡ before ++ stops_from n steps → AreBelow n before → AreListed numbers vs u.facts v n steps
      → unit_items numbers writing u.position n steps ≡ Some items → AreNumberedItems before n steps items
  unfolding unit_items strings_of_items stops_from
  items_known n before [] items strings below listed h = subst (AreNumberedItems before n []) (some_same [] items h) (record { knows = tt; in_order = tt; counted = refl })
  items_known n before (st ∷ later) items strings below listed h =
      let m = before_by (procedure_item numbers writing (λ k. k) u.position n st) (unit_items numbers writing u.position (suc n) later) items h in
      subst (AreNumberedItems before n (st ∷ later)) m.is
      (step_known n before st later m.item m.later strings below listed.0 m.item_is (λ more again further. items_known (suc n) more later m.later again further listed.1 m.later_is))

  -- ## What is kept

  saving_plain : (object : ℕ) (value : Pure) (item : Flat) → IsPlain scope names (c.Variable object ToNumber) → saving_item writing (record { object = object; value = value }) ≡ Some item → IsPlainItem scope names item
  unfolding saving_item strings_of_item
  saving_plain object value item target h =
      let m = mapped_by (flat.Assign (c.Variable object ToNumber)) (value_term writing value) item h in
      let given = value_plain scope names writing known.names value m.one m.one_is in
      subst (IsPlainItem scope names) m.is (record { knows = (target.knows, given.knows); no_strings = (λ i. target.no_strings i ++ given.no_strings i) })

  -- items that keep bounds pass no strings
  saved_known : (first : ℕ) (bounds : List KeptBound) (rest : Option (List Flat)) (items : List Flat) (before : List ℕ) (n : ℕ) (steps : List Step) → ((i : ℕ) (one : KeptBound) → slice_get bounds i ≡ Some one → IsPlain scope names (c.Variable (first + i) ToNumber))
      → saving_items writing (savings_from first bounds) rest ≡ Some items → ((later : List Flat) → rest ≡ Some later → AreNumberedItems before n steps later) → AreNumberedItems before n steps items
  unfolding saving_items savings_from strings_of_items
  saved_known first [] rest items before n steps plain h others = others items h
  saved_known first (one ∷ bounds) rest items before n steps plain h others =
      let m = before_by (saving_item writing (record { object = first; value = one.value })) (saving_items writing (savings_from (suc first) bounds) rest) items h in
      let here = saving_plain first one.value m.item (subst (λ k. IsPlain scope names (c.Variable k ToNumber)) {x = first + 0} {y = first} (omega arith) (plain 0 one refl)) m.item_is in
      let r = saved_known (suc first) bounds rest m.later before n steps
      (λ i other at. subst (λ k. IsPlain scope names (c.Variable k ToNumber)) {x = first + suc i} {y = suc first + i} (omega arith) (plain (suc i) other at)) m.later_is others in
      subst (AreNumberedItems before n steps) m.is
      (record {
        knows = (here.knows, r.knows);
        in_order = subst (λ ks. AreInOrder (first_string v b + length before) (ks ++ strings_of_items names m.later)) (sym here.no_strings) r.in_order;
        counted = (λ i. length (here.no_strings i ++ strings_of_items names m.later)) ∙ r.counted;
      })

  -- ## The whole

  abbrev kept : ℕ
  kept = length (savings_of v b)

  pub behind_kept : (before : List ℕ) → v.strings ≡ before ++ stops_from kept (drop kept u.steps) → AreBelow kept before → AreNumberedItems before kept (drop kept u.steps) all
  unfolding whole_items
  behind_kept before strings below =
      saved_known (first_bound v b) v.bounds (unit_items numbers writing u.position kept (drop kept u.steps)) all before kept (drop kept u.steps)
      (bound_plain routines objects functions ws s w u.facts kind owned constants_before is.differ is.names_listed is.as_many) is.emitted
      (λ later h. items_known kept before (drop kept u.steps) later strings below (listed_behind numbers vs u.facts v kept 0 kept u.steps (omega arith) is.listed) h)

  -- where no step that stands for what is kept passes a string
  pub every : stops_from 0 u.steps ≡ stops_from kept (drop kept u.steps) → AreNumberedItems [] 0 u.steps all
  every none = let r = behind_kept [] (is.stops ∙ none) none_below in record { knows = r.knows; in_order = r.in_order; counted = r.counted ∙ ap length (sym none) }

none_left : (ks : List ℕ) → length ks ≡ 0 → ks ≡ []
none_left [] h = refl
none_left (k ∷ ks) h = let no : ⊥ = omega (arith, h) in absurd no

-- the function in its file
module _ (routines : Routines) (objects : List ℕ → Option ℕ) (own : ℕ) (numbers : Numbers) (ws : List WrittenUnit) (s : Site) (w : WrittenUnit) (u : Text) (kind : ℕ → ℕ → Option Basic) (o : Outline) (all : List Flat) (owned : s.bases.own ≡ length ws)
    (constants_before : s.bases.file + length s.constants ≤ s.bases.function) (numbered : AreNumbered routines numbers ws w.inventory) (is : IsUnitBuilt numbers ws s w u kind o all) where
  emitted : AreEmitted numbers ws s w u kind all
  emitted = record { differ = is.differ; names_listed = is.names_listed; listed = is.listed; stops = is.stops; emitted = is.emitted; as_many = is.as_many }

  abbrev saved : ℕ
  saved = length (savings_of w.inventory s.bases)

  abbrev rest : List ℕ
  rest = stops_from saved (drop saved u.steps)

  -- the statements have as many strings as are listed, and all are those of the steps behind what is kept
  none_passed : stops_from 0 u.steps ≡ rest
  none_passed =
      let p = passed saved 0 saved u.steps (omega arith) in
      let outer = file_scope routines objects s.bases.file (file_with s.constants []) in
      let r = behind_kept routines objects [] numbers ws s w u kind all owned constants_before numbered emitted p.before (is.stops ∙ p.is) p.below in
      let theirs =
      strings_are_theirs routines outer s.bases.function (unit_function w) o all is.built (subst (λ ns. KnowsItems (scope_in routines objects [] s w) ns all) (sym is.names) r.knows) in
      let listed : length (whole_body w.body).items.strings ≡ length p.before + length rest = is.as_many ∙ ap length (is.stops ∙ p.is) ∙ length-append p.before rest in
      let counted : length (whole_body w.body).items.strings ≡ length rest =
      bytes_count o.names (whole_body w.body).items.strings (strings_of_items o.names all) theirs ∙ ap (λ ns. length (strings_of_items ns all)) is.names ∙ r.counted in
      p.is ∙ ap (λ ks. ks ++ rest) (none_left p.before (omega (arith, listed, counted)))

  all_known : (functions : List CFunction) → KnowsItems (scope_in routines objects functions s w) o.names all
  all_known functions = subst (λ ns. KnowsItems (scope_in routines objects functions s w) ns all) (sym is.names) (every routines objects functions numbers ws s w u kind all owned constants_before numbered emitted none_passed).knows

  ordered : AreInOrder (first_string w.inventory s.bases) (strings_of_items (unit_names ws s w) all)
  ordered =
      subst (λ k. AreInOrder k (strings_of_items (unit_names ws s w) all)) {x = first_string w.inventory s.bases + 0} {y = first_string w.inventory s.bases} (omega arith)
      (every routines objects [] numbers ws s w u kind all owned constants_before numbered emitted none_passed).in_order

  code_is : (functions : List CFunction) → (linked_function routines own (file_scope routines objects s.bases.file (file_with s.constants functions)) s.bases.function (unit_function w)).function.code ≡ all
  code_is functions =
      let first = linked.first_string s.bases.function (unit_function w) + length (strings_of (linked.statics (unit_function w))) in
      let kept = unit_statics_count w.inventory in
      let passed = ap length (unit_strings w.inventory) in
      let there : first_string w.inventory s.bases ≡ first = omega (arith, kept, passed) in
      code_is_theirs routines own (file_scope routines objects s.bases.file (file_with s.constants functions)) s.bases.function (unit_function w) o all is.built (all_known functions)
      (subst (λ ns. AreInOrder first (strings_of_items ns all)) (sym is.names) (subst (λ k. AreInOrder k (strings_of_items (unit_names ws s w) all)) there ordered))

  has : HasItsItems routines objects own s w o all
  has =
      let v = w.inventory in
      let names = unit_names ws s w in
      let outer = file_scope routines objects s.bases.file (file_with s.constants []) in
      let known = all_known [] in
      let theirs = strings_are_theirs routines outer s.bases.function (unit_function w) o all is.built known in
      record {
        known = all_known;
        code = code_is;
        size = ap (λ body. body.size) (whole_is o all (unit_function w) is.built) ∙ (built_fit (scope_of routines outer s.bases.function (unit_function w)) o all (unit_function w) is.built known).size;
        strings = strings_same names.string v.texts (first_string v s.bases) (whole_body w.body).items.strings (strings_of_items names all) v.strings
            (subst (λ ns. AreBytesOf ns (whole_body w.body).items.strings (strings_of_items ns all)) is.names theirs) ordered
            ((every routines objects [] numbers ws s w u kind all owned constants_before numbered emitted none_passed).counted ∙ ap length (sym is.stops))
            (string_told routines objects [] numbers ws s w u kind all owned constants_before numbered emitted);
      }

pub units_have_their_items : UnitsHaveTheirItems
units_have_their_items routines objects own numbers ws s w u kind o items owned before numbered is = has routines objects own numbers ws s w u kind o items owned before numbered is
