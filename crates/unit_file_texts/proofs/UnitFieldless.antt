-- The items for calls and returns, and those that keep bounds, take no fields of lists.
use Rattle.std.specs.Prelude.{◌≡◌, ℕ, suc, Bool, true, false, List, [], ◌∷◌, length, drop, Option, Some, None, option_map}
use Rattle.std.proofs.Common.{refl, subst}
use Rattle.main_file_texts.specs.f_tree.declared.names.Basic.{Basic}
use Rattle.main_file_texts.specs.f_tree.declared.names.Class.{Class}
use Rattle.main_file_texts.specs.f_tree.declared.names.Class.TheVariants as class
use Rattle.main_file_texts.specs.f_tree.Values.{Bytes, IsLabel}
use Rattle.main_file_texts.specs.f_tree.Facts as facts
use Rattle.main_file_texts.specs.f_tree.Facts.{UnitKind, EntryPoint}
use Rattle.main_file_texts.specs.f_tree.World.{Procedure}
use Rattle.main_file_texts.specs.l_core.Pures.{Pure, Constant, Temporary, Name, ElementOf, Pures, NoPure, AndPure}
use Rattle.main_file_texts.specs.l_core.Steps as step
use Rattle.main_file_texts.specs.l_core.Steps.{Step}
use Rattle.c_spelling.specs.c_tree.Access.{ToNumber, ToFunction}
use Rattle.c_spelling.specs.c_tree.Terms as c
use Rattle.c_spelling.specs.c_tree.Terms.{Term}
use Rattle.c_spelling.specs.c_tree.Flat.{Flat, Assign, Invoke, Ignored, Kept, Return, Callee}
use Rattle.main_file_texts.specs.c_image.Addresses.{Address, Alone, Inside, InTexts, Through}
use Rattle.main_file_texts.proofs.c_structure_laws.DrawnExpressions.{mapped_by}
use Rattle.main_file_texts.specs.c_emit.Numbers.{Writing, one_more, if_number, value_term, place_term, has_number, has_shape}
use Rattle.main_file_texts.specs.c_emit.Calls.{held_term, address_of}
use Rattle.main_file_texts.proofs.linking_laws.Places.{some_same}
use Rattle.unit_programs.specs.procedure_emission.bound_items.BoundItems.{Saving, saving_item}
use Rattle.unit_programs.specs.procedure_emission.ProcedureItems.{Numbers, pointer_term, procedure_argument, routine_term, name_argument, argument_term, argument_terms, function_called, call_item, basic_wanted, kept_item, call_for_item, result_term, back_item, back_by_item, procedure_item}
use Rattle.unit_programs.specs.unit_file_laws.BuiltUnits.{unit_items, saving_items, whole_items}
use Rattle.main_file_texts.specs.WellFormedMains.{HasNoField, HaveNoField, no_terms, ItemHasNoField, ItemsHaveNoField}
use Rattle.main_file_texts.proofs.Fieldless.{more_fieldless, address_fieldless, held_fieldless, value_fieldless, target_fieldless}
use Rattle.main_file_texts.proofs.FieldlessItems.{held_is, return_fieldless, flat_fieldless, before_fieldless}

pointer_fieldless : (array : Bool) (a : Address) → HasNoField (pointer_term array a)
pointer_fieldless array (Through parameter) = tt
pointer_fieldless true (Alone object) = tt
pointer_fieldless false (Alone object) = address_fieldless (Alone object)
pointer_fieldless true (Inside object before) = address_fieldless (Inside object before)
pointer_fieldless false (Inside object before) = address_fieldless (Inside object before)
pointer_fieldless true (InTexts object before) = address_fieldless (InTexts object before)
pointer_fieldless false (InTexts object before) = address_fieldless (InTexts object before)

addressed_fieldless : (x : Option Term) (term : Term) → option_map address_of x ≡ Some term → ((t : Term) → x ≡ Some t → HasNoField t) → HasNoField term
addressed_fieldless x term h one = let m = mapped_by address_of x term h in subst HasNoField m.is (one m.one m.one_is)

called_fieldless : (f : Option Callee) (xs : Option (List Term)) (item : Flat) → call_item Ignored f xs ≡ Some item → ((ts : List Term) → xs ≡ Some ts → HaveNoField ts) → ItemHasNoField item
unfolding call_item
called_fieldless (Some callee) (Some ts) item h are = subst ItemHasNoField (some_same (Invoke Ignored callee ts) item h) (are ts refl)
called_fieldless (Some callee) None item h are = absurd (cc)
called_fieldless None xs item h are = absurd (cc)

stored_fieldless : (target : Term) (f : Option Callee) (xs : Option (List Term)) (item : Flat) → call_item (Kept target) f xs ≡ Some item → HasNoField target → ((ts : List Term) → xs ≡ Some ts → HaveNoField ts) → ItemHasNoField item
unfolding call_item
stored_fieldless target (Some callee) (Some ts) item h one are = subst ItemHasNoField (some_same (Invoke (Kept target) callee ts) item h) (one, are ts refl)
stored_fieldless target (Some callee) None item h one are = absurd (cc)
stored_fieldless target None xs item h one are = absurd (cc)

kept_fieldless : (b : Option Basic) (x : Option Term) (f : Option Callee) (xs : Option (List Term)) (item : Flat) → kept_item b x f xs ≡ Some item → ((t : Term) → x ≡ Some t → HasNoField t) → ((ts : List Term) → xs ≡ Some ts → HaveNoField ts)
    → ItemHasNoField item
unfolding kept_item
kept_fieldless (Some basic) (Some target) f xs item h one are = stored_fieldless target f xs item h (one target refl) are
kept_fieldless (Some basic) None f xs item h one are = absurd (cc)
kept_fieldless None x f xs item h one are = absurd (cc)

given_fieldless : (x : Option Term) (item : Flat) → option_map (λ term. Return (Some term)) x ≡ Some item → ((t : Term) → x ≡ Some t → HasNoField t) → ItemHasNoField item
given_fieldless (Some t) item h one = subst ItemHasNoField (some_same (Return (Some t)) item h) (one t refl)
given_fieldless None item h one = absurd (cc)

module _ (w : Writing) (numbers : Numbers) where
  routine_fieldless : (x : Bytes) (k : Class) (a : Address) (term : Term) → routine_term numbers x k a ≡ Some term → HasNoField term
  unfolding routine_term
  routine_fieldless x class.Procedure a term h = let m = mapped_by (λ number. procedure_argument (c.Routine number)) (numbers (Procedure x)) term h in subst HasNoField m.is tt
  routine_fieldless x class.DummyProcedure (Through parameter) term h = subst HasNoField (some_same (procedure_argument (c.Variable parameter ToFunction)) term h) tt
  routine_fieldless x class.DummyProcedure a term h = absurd (cc)
  routine_fieldless x other a term h = absurd (cc)

  name_fieldless : (x : Bytes) (number : Bool) (term : Term) → name_argument numbers w x number ≡ Some term → HasNoField term
  unfolding name_argument
  name_fieldless x true term h =
      subst HasNoField (some_same (pointer_term (has_shape (w.facts.program.attribute x).dimensions) (w.naming.address x)) term h) (pointer_fieldless (has_shape (w.facts.program.attribute x).dimensions) (w.naming.address x))
  name_fieldless x false term h = routine_fieldless x (w.facts.program.attribute x).class (w.naming.address x) term h

  argument_fieldless : (p : Pure) (term : Term) → argument_term numbers w p ≡ Some term → HasNoField term
  unfolding argument_term
  argument_fieldless (Constant d) term h = addressed_fieldless (held_term w (Constant d)) term h (held_is w (Constant d))
  argument_fieldless (Temporary k) term h = addressed_fieldless (held_term w (Temporary k)) term h (held_is w (Temporary k))
  argument_fieldless (Name x) term h = name_fieldless x (has_number w x) term h
  argument_fieldless (ElementOf x ps) term h = addressed_fieldless (place_term w (ElementOf x ps)) term h (target_fieldless w (ElementOf x ps))
  argument_fieldless p term h = absurd (cc)

  argument_more : (p : Pure) (xs : Option (List Term)) (ts : List Term) → one_more (argument_term numbers w p) xs ≡ Some ts → ((later : List Term) → xs ≡ Some later → HaveNoField later) → HaveNoField ts
  argument_more p xs ts h others = more_fieldless (argument_term numbers w p) xs ts h (argument_fieldless p) others

  arguments_fieldless : (ps : Pures) (ts : List Term) → argument_terms numbers w ps ≡ Some ts → HaveNoField ts
  unfolding argument_terms
  arguments_fieldless NoPure ts h = subst HaveNoField (some_same [] ts h) no_terms
  arguments_fieldless (AndPure (Constant (IsLabel label)) ps) ts h = arguments_fieldless ps ts h
  arguments_fieldless (AndPure p ps) ts h = argument_more p (argument_terms numbers w ps) ts h (arguments_fieldless ps)

  result_fieldless : (entries : List EntryPoint) (t : Term) → result_term w entries ≡ Some t → HasNoField t
  unfolding result_term
  result_fieldless (entry ∷ []) t h = target_fieldless w (Name entry.name) t h
  result_fieldless [] t h = absurd (cc)
  result_fieldless (one ∷ other ∷ later) t h = absurd (cc)

  back_fieldless : (kind : UnitKind) (item : Flat) → back_item w kind ≡ Some item → ItemHasNoField item
  unfolding back_item
  back_fieldless facts.FunctionUnit item h = given_fieldless (result_term w w.facts.program.entries) item h (result_fieldless w.facts.program.entries)
  back_fieldless kind item h = return_fieldless kind item h

  back_by_fieldless : (p : Pure) (kind : UnitKind) (item : Flat) → back_by_item w p kind ≡ Some item → ItemHasNoField item
  unfolding back_by_item
  back_by_fieldless p facts.SubroutineUnit item h = given_fieldless (value_term w p) item h (value_fieldless w p)
  back_by_fieldless p kind item h = absurd (cc)

  step_fieldless : (place : ℕ → ℕ) (label : ℕ → Option ℕ) (n : ℕ) (st : Step) (item : Flat) → procedure_item numbers w place label n st ≡ Some item → ItemHasNoField item
  unfolding procedure_item call_for_item
  step_fieldless place label n (step.CallFor k callee ps) item h =
      kept_fieldless (basic_wanted callee.want) (if_number (w.is_number k) (Some (c.Variable (w.naming.temporary k) ToNumber))) (function_called numbers w callee.name) (argument_terms numbers w ps) item h
      (λ t is. held_fieldless (w.is_number k) (c.Variable (w.naming.temporary k) ToNumber) t is (λ holds. tt)) (arguments_fieldless ps)
  step_fieldless place label n (step.CallSub k x ps) item h = called_fieldless (function_called numbers w x) (argument_terms numbers w ps) item h (arguments_fieldless ps)
  step_fieldless place label n step.Back item h = back_fieldless w.facts.program.kind item h
  step_fieldless place label n (step.BackBy p) item h = back_by_fieldless p w.facts.program.kind item h
  step_fieldless place label n st item h = flat_fieldless w place label n st item h

  unit_items_fieldless : (label : ℕ → Option ℕ) (n : ℕ) (steps : List Step) (items : List Flat) → unit_items numbers w label n steps ≡ Some items → ItemsHaveNoField items
  unfolding unit_items
  unit_items_fieldless label n [] items h = subst ItemsHaveNoField (some_same [] items h) tt
  unit_items_fieldless label n (st ∷ later) items h =
      before_fieldless w (procedure_item numbers w (λ m. m) label n st) (unit_items numbers w label (suc n) later) items h (step_fieldless (λ m. m) label n st) (unit_items_fieldless label (suc n) later)

  saving_fieldless : (one : Saving) (item : Flat) → saving_item w one ≡ Some item → ItemHasNoField item
  unfolding saving_item
  saving_fieldless one item h = let m = mapped_by (Assign (c.Variable one.object ToNumber)) (value_term w one.value) item h in subst ItemHasNoField m.is (tt, value_fieldless w one.value m.one m.one_is)

  savings_fieldless : (savings : List Saving) (rest : Option (List Flat)) (items : List Flat) → saving_items w savings rest ≡ Some items → ((later : List Flat) → rest ≡ Some later → ItemsHaveNoField later) → ItemsHaveNoField items
  unfolding saving_items
  savings_fieldless [] rest items h are = are items h
  savings_fieldless (one ∷ savings) rest items h are =
      before_fieldless w (saving_item w one) (saving_items w savings rest) items h (saving_fieldless one) (λ later is. savings_fieldless savings rest later is are)

  pub whole_items_fieldless : (label : ℕ → Option ℕ) (savings : List Saving) (steps : List Step) (items : List Flat) → whole_items numbers w label savings steps ≡ Some items → ItemsHaveNoField items
  unfolding whole_items
  whole_items_fieldless label savings steps items h =
      savings_fieldless savings (unit_items numbers w label (length savings) (drop (length savings) steps)) items h (unit_items_fieldless label (length savings) (drop (length savings) steps))
