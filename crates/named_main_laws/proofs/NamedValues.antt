-- The terms of lowered values, and the flat items of steps, name objects as their unit does. ANSI X3.9-1978, section 6; C89, 3.3.
use Rattle.std.specs.Prelude.{◌≡◌, ℕ, zero, suc, ◌+◌, ◌-◌, ℤ, pos, negsuc, nat_eq, Bool, true, false, ◌&&◌, List, [], ◌∷◌, length, Option, Some, None, option_map, option_and_then, slice_get, if◌then◌else◌}
use Rattle.std.proofs.Common.{refl, sym, ap, ◌∙◌, subst}
use Rattle.named_mains.specs.f_tree.Values.{Bytes, Datum, IsInt, IsLog, in_range}
use Rattle.named_mains.specs.f_tree.Facts.{Output, Listed, Controls, UnitKind, MainProgram, SubroutineUnit, FunctionUnit, BlockDataUnit}
use Rattle.named_mains.specs.f_tree.Terms.{Prefix, Negate, Complement}
use Rattle.named_mains.specs.f_tree.Terms as fortran
use Rattle.named_mains.specs.l_core.Pures.{Pure, Constant, Temporary, Load, Name, AllOf, ElementOf, FirstOf, Substring, Concatenated, Prefixed, Operated, Applied, Chosen, Pures, NoPure, AndPure}
use Rattle.named_mains.specs.l_core.Steps as step
use Rattle.named_mains.specs.l_core.Steps.{Step}
use Rattle.c_spelling.specs.c_tree.declared.expression.UnaryOp.TheVariants as prefix
use Rattle.c_spelling.specs.c_tree.declared.expression.BinaryOp.TheVariants as op
use Rattle.c_spelling.specs.c_tree.declared.expression.Extreme.{Extreme}
use Rattle.c_spelling.specs.c_tree.declared.expression.Extreme.TheVariants as extreme
use Rattle.c_spelling.specs.c_tree.Access.{ToNumber}
use Rattle.c_spelling.specs.c_tree.Terms as c
use Rattle.c_spelling.specs.c_tree.Terms.{Term}
use Rattle.c_spelling.specs.c_tree.Flat.{Flat, Branch, Select, CaseAt}
use Rattle.named_mains.specs.c_image.Addresses.{number_term, element_term}
use Rattle.named_mains.specs.c_image.Elements.{index_term}
use Rattle.named_mains.specs.c_image.Operations.{constant_term, prefix_for, operator_for, extreme_term, function_term}
use Rattle.named_mains.specs.c_emit.Numbers.{Writing, is_scalar, is_array, constant_value, with_two, with_three, one_more, steps_from, element_value, applied_value, if_number, value_term, place_term, value_terms}
use Rattle.named_mains.specs.c_emit.LibraryFunctions.{LibraryFunction, library_function}
use Rattle.named_mains.specs.c_emit.Calls.{call_of, is_plain, start_on, start_item, kind_number, held_term, held_terms, computed_item, item_by, takes_item, finish_item, stop_item}
use Rattle.named_mains.specs.c_emit.Types.{type_of}
use Rattle.named_mains.specs.c_emit.Flats.{assigned, jump_to, cases_to, cases_for, switch_to, returned_by, flat_of}
use Rattle.named_mains.specs.main_file.MainItems.{item_before, flats_from}
use Rattle.named_mains.proofs.named_items.NamedItems.{some_same}
use Rattle.named_main_laws.proofs.NamedPlaces.{Reach, Own, NamesObjects, SetsObjects}

-- what a unit writes for its names and temporaries are objects of a kind
pub record WritesObjects (IsObject : Reach → ℕ → Type 0) (w : Writing) : Type 0 where
  pub scalars : (x : Bytes) → is_scalar w x ≡ true → NamesObjects IsObject (number_term (w.naming.address x))
  pub arrays : (x : Bytes) → is_array w x ≡ true → (index : Term) → NamesObjects IsObject (element_term (w.naming.address x) index)
  pub temporaries : (k : ℕ) → w.is_number k ≡ true → IsObject Own (w.naming.temporary k)

-- ## What may be there

abbrev pub MayName : (Reach → ℕ → Type 0) → Option Term → Type 0
MayName IsObject None = Unit {0}
MayName IsObject (Some t) = NamesObjects IsObject t

abbrev AllName : (Reach → ℕ → Type 0) → List Term → Type 0
AllName IsObject [] = Unit {0}
AllName IsObject (t ∷ ts) = NamesObjects IsObject t × AllName IsObject ts

abbrev MayAllName : (Reach → ℕ → Type 0) → Option (List Term) → Type 0
MayAllName IsObject None = Unit {0}
MayAllName IsObject (Some ts) = AllName IsObject ts

abbrev pub MaySet : (Reach → ℕ → Type 0) → Option Flat → Type 0
MaySet IsObject None = Unit {0}
MaySet IsObject (Some item) = SetsObjects IsObject item

-- ## Lists of items

-- steps have items one for one
pub record EmitsEach (emit : ℕ → Step → Option Flat) (emits : ℕ → List Step → Option (List Flat)) : Type 0 where
  pub none : (n : ℕ) → emits n [] ≡ Some []
  pub more : (n : ℕ) (st : Step) (later : List Step) → emits n (st ∷ later) ≡ item_before (emit n st) (emits (suc n) later)

pub flats_emitted : (w : Writing) (label : ℕ → Option ℕ) → EmitsEach (flat_of w (λ m. m) label) (flats_from w label)
unfolding flats_from
flats_emitted w label = record { none = λ n. refl; more = λ n st later. refl }

pub record AreSplit (o : Option Flat) (os : Option (List Flat)) (flats : List Flat) : Type 0 where
  pub first : Flat
  pub rest : List Flat
  pub first_is : o ≡ Some first
  pub rest_is : os ≡ Some rest
  pub is : first ∷ rest ≡ flats

pub split : (o : Option Flat) (os : Option (List Flat)) (flats : List Flat) → item_before o os ≡ Some flats → AreSplit o os flats
unfolding item_before
split (Some first) (Some rest) flats h = record { first = first; rest = rest; first_is = refl; rest_is = refl; is = some_same (first ∷ rest) flats h }
split (Some first) None flats h = absurd (cc)
split None os flats h = absurd (cc)

module _ (IsObject : Reach → ℕ → Type 0) where
  -- ## Values

  negative_names : (less : ℕ) (t : Bool) → NamesObjects IsObject (if t then c.Between op.Subtract (c.Prefixed prefix.Minus (c.Constant (pos 2147483647))) (c.Constant (pos 1)) else c.Prefixed prefix.Minus (c.Constant (pos (suc less))))
  negative_names less true = tt
  negative_names less false = tt

  number_names : (z : ℤ) → NamesObjects IsObject (constant_term z)
  number_names (pos n) = tt
  number_names (negsuc less) = negative_names less (nat_eq less 2147483647)

  constant_by : (z : ℤ) (t : Bool) → MayName IsObject (if t then Some (constant_term z) else None)
  constant_by z true = number_names z
  constant_by z false = tt

  constant_names : (d : Datum) → MayName IsObject (constant_value d)
  unfolding constant_value
  constant_names (IsInt z) = constant_by z (in_range z)
  constant_names (IsLog true) = tt
  constant_names (IsLog false) = tt
  constant_names d = tt

  prefix_names : (sign : Prefix) (o : Option Term) → MayName IsObject (option_map (c.Prefixed (prefix_for sign)) o)
  prefix_names Negate (Some t) = tt
  prefix_names Complement (Some t) = tt
  prefix_names sign None = tt

  operator_names : (sign : fortran.Operator) (o p : Option Term) → MayName IsObject o → MayName IsObject (with_two (c.Between (operator_for sign)) o p)
  unfolding with_two
  operator_names sign (Some t) (Some u) known = known
  operator_names sign (Some t) None known = tt
  operator_names sign None p known = tt

  choice_names : (o p q : Option Term) → MayName IsObject (with_three c.Choice o p q)
  unfolding with_three
  choice_names (Some t) (Some u) (Some v) = tt
  choice_names (Some t) (Some u) None = tt
  choice_names (Some t) None q = tt
  choice_names None p q = tt

  extreme_names : (which : Extreme) (best : Term) (later : List Term) → NamesObjects IsObject best → NamesObjects IsObject (extreme_term which best later)
  extreme_names which best [] known = known
  extreme_names which best (t ∷ later) known = extreme_names which (c.Most which best t) later tt

  function_names : (f : fortran.Function) (ts : List Term) → AllName IsObject ts → MayName IsObject (function_term f ts)
  function_names fortran.Truncation (a ∷ []) known = known.0
  function_names fortran.Magnitude (a ∷ []) known = tt
  function_names fortran.Remainder (a ∷ b ∷ []) known = known.0
  function_names fortran.Largest (a ∷ later) known = extreme_names extreme.Max a later known.0
  function_names fortran.Smallest (a ∷ later) known = extreme_names extreme.Min a later known.0
  function_names f ts known = tt

  applied_names : (f : fortran.Function) (o : Option (List Term)) → MayAllName IsObject o → MayName IsObject (applied_value (function_term f) o)
  unfolding applied_value
  applied_names f (Some ts) known = function_names f ts known
  applied_names f None known = tt

  more_name : (o : Option Term) (os : Option (List Term)) → MayName IsObject o → MayAllName IsObject os → MayAllName IsObject (one_more o os)
  unfolding one_more
  more_name (Some t) (Some ts) known also = (known, also)
  more_name (Some t) None known also = tt
  more_name None os known also = tt

  assigned_sets : (o p : Option Term) → MayName IsObject o → MayName IsObject p → MaySet IsObject (assigned o p)
  unfolding assigned
  assigned_sets (Some t) (Some u) known also = (known, also)
  assigned_sets (Some t) None known also = tt
  assigned_sets None p known also = tt

  if_names : (o : Option Term) (t : Bool) → (t ≡ true → MayName IsObject o) → MayName IsObject (if_number t o)
  unfolding if_number
  if_names o true known = known refl
  if_names o false known = tt

  -- ## Items that set nothing

  branch_sets : (on off : ℕ) (o : Option Term) → MaySet IsObject (option_map (λ test. Branch test on off) o)
  branch_sets on off None = tt
  branch_sets on off (Some t) = tt

  select_sets : (cases : List CaseAt) (otherwise : ℕ) (o : Option Term) → MaySet IsObject (option_map (λ value. Select value cases otherwise) o)
  select_sets cases otherwise None = tt
  select_sets cases otherwise (Some t) = tt

  jump_sets : (o : Option ℕ) → MaySet IsObject (jump_to (λ m. m) o)
  unfolding jump_to
  jump_sets None = tt
  jump_sets (Some m) = tt

  pub return_sets : (kind : UnitKind) → MaySet IsObject (returned_by kind)
  unfolding returned_by
  return_sets MainProgram = tt
  return_sets SubroutineUnit = tt
  return_sets FunctionUnit = tt
  return_sets BlockDataUnit = tt

  module _ (w : Writing) where
    start_by : (n : ℕ) (t : Bool) → MaySet IsObject (start_on w n t)
    unfolding start_on call_of
    start_by n true = tt
    start_by n false = tt

    start_sets : (n : ℕ) (controls : Controls) (ps : Pures) → MaySet IsObject (start_item w n controls ps)
    unfolding start_item
    start_sets n controls (AndPure (Constant (IsInt unit)) NoPure) = start_by n (is_plain controls && in_range unit)
    start_sets n controls ps = tt

    if_calls : (name : List ℕ) (arguments : List Term) (t : Bool) → MaySet IsObject (if t then Some (call_of w name arguments) else None)
    unfolding call_of
    if_calls name arguments true = tt
    if_calls name arguments false = tt

    item_sets : (number : Option ℤ) (o : Option Term) → MaySet IsObject (item_by w number o)
    unfolding item_by
    item_sets (Some z) (Some t) = if_calls _ _ (w.library.has z && w.library.has (pos 1))
    item_sets (Some z) None = tt
    item_sets None o = tt

    takes_sets : (n : ℕ) (ps : Pures) → MaySet IsObject (takes_item w n ps)
    unfolding takes_item
    takes_sets n (AndPure p NoPure) = item_sets (option_and_then kind_number (type_of w n p)) (held_term w p)
    takes_sets n ps = tt

    finish_sets : (ps : Pures) → MaySet IsObject (finish_item w ps)
    unfolding finish_item call_of
    finish_sets NoPure = tt
    finish_sets ps = tt

    stop_sets : (n : ℕ) (text : Bytes) → SetsObjects IsObject (stop_item w n text)
    unfolding stop_item call_of
    stop_sets n text = tt

  -- ## Steps

  module _ (w : Writing) (writes : WritesObjects IsObject w) where
    element_names : (x : Bytes) (o : Option (List Term)) → is_array w x ≡ true → MayName IsObject (element_value w.naming x o)
    unfolding element_value
    element_names x (Some ts) is = writes.arrays x is (index_term (steps_from w.naming x 0 ts))
    element_names x None is = tt

    mutual
      unfolding value_term place_term value_terms

      pub value_names : (p : Pure) → MayName IsObject (value_term w p)
      value_names (Constant d) = constant_names d
      value_names (Temporary k) = if_names (Some (c.Variable (w.naming.temporary k) ToNumber)) (w.is_number k) (writes.temporaries k)
      value_names (Load p) = place_names p
      value_names (Prefixed sign p) = prefix_names sign (value_term w p)
      value_names (Operated sign p q) = operator_names sign (value_term w p) (value_term w q) (value_names p)
      value_names (Applied f ps) = applied_names f (value_terms w ps) (values_name ps)
      value_names (Chosen p q r) = choice_names (value_term w p) (value_term w q) (value_term w r)
      value_names (Name x) = tt
      value_names (AllOf x) = tt
      value_names (ElementOf x ps) = tt
      value_names (FirstOf p) = tt
      value_names (Substring x p q r) = tt
      value_names (Concatenated ps) = tt

      place_names : (p : Pure) → MayName IsObject (place_term w p)
      place_names (Name x) = if_names (Some (number_term (w.naming.address x))) (is_scalar w x) (writes.scalars x)
      place_names (ElementOf x ps) = if_names (element_value w.naming x (value_terms w ps)) (is_array w x) (element_names x (value_terms w ps))
      place_names (Constant d) = tt
      place_names (Temporary k) = tt
      place_names (Load p) = tt
      place_names (AllOf x) = tt
      place_names (FirstOf p) = tt
      place_names (Substring x p q r) = tt
      place_names (Concatenated ps) = tt
      place_names (Prefixed sign p) = tt
      place_names (Operated sign p q) = tt
      place_names (Applied f ps) = tt
      place_names (Chosen p q r) = tt

      values_name : (ps : Pures) → MayAllName IsObject (value_terms w ps)
      values_name NoPure = tt
      values_name (AndPure p ps) = more_name (value_term w p) (value_terms w ps) (value_names p) (values_name ps)

    computed_sets : (x : Option Term) (function : Option LibraryFunction) (xs : Option (List Term)) → MaySet IsObject (computed_item w x function xs)
    unfolding computed_item
    computed_sets (Some t) (Some function) (Some ts) = tt
    computed_sets (Some t) (Some function) None = tt
    computed_sets (Some t) None xs = tt
    computed_sets None function xs = tt

    pub step_sets : (label : ℕ → Option ℕ) (n : ℕ) (st : Step) → MaySet IsObject (flat_of w (λ m. m) label n st)
    unfolding flat_of switch_to
    step_sets label n (step.Put target p) = assigned_sets (place_term w target) (value_term w p) (place_names target) (value_names p)
    step_sets label n (step.PutLabel target l) = assigned_sets (place_term w target) (constant_value (IsInt (pos l))) (place_names target) (constant_names (IsInt (pos l)))
    step_sets label n (step.Keep k p) =
        assigned_sets (if_number (w.is_number k) (Some (c.Variable (w.naming.temporary k) ToNumber))) (value_term w p)
        (if_names (Some (c.Variable (w.naming.temporary k) ToNumber)) (w.is_number k) (writes.temporaries k)) (value_names p)
    step_sets label n (step.Compute k f ps) = computed_sets (if_number (w.is_number k) (Some (c.Variable (w.naming.temporary k) ToNumber))) (library_function f) (held_terms w ps)
    step_sets label n (step.Unless p m) = branch_sets (suc n) (suc n + m) (value_term w p)
    step_sets label n (step.AgainIf p m) = branch_sets (n - m) (suc n) (value_term w p)
    step_sets label n (step.Skip m) = tt
    step_sets label n (step.Again m) = tt
    step_sets label n (step.Jump l) = jump_sets (label l)
    step_sets label n (step.Select p count) = select_sets (cases_to (λ m. m) 1 (suc n) count) (suc n + count) (value_term w p)
    step_sets label n (step.JumpBy p labels) = select_sets (cases_for (λ m. m) (suc n) labels) (suc n + length labels) (place_term w p)
    step_sets label n (step.Branch k count) = select_sets (cases_to (λ m. m) 1 (suc n) count) (suc n + count) (value_term w (Temporary k))
    step_sets label n (step.Way l) = jump_sets (label l)
    step_sets label n step.Pass = tt
    step_sets label n step.Back = return_sets w.facts.program.kind
    step_sets label n (step.Acts (step.Starts Output Listed controls) ps m) = start_sets w n controls ps
    step_sets label n (step.Acts step.Takes ps m) = takes_sets w n ps
    step_sets label n (step.Acts step.Finishes ps zero) = finish_sets w ps
    step_sets label n (step.Halt text) = stop_sets w n text
    step_sets label n st = tt

  -- ## Items of steps, by what each of them sets

  pub later_sets : (first : Flat) (rest : List Flat) → SetsObjects IsObject first → ((k : ℕ) (item : Flat) → slice_get rest k ≡ Some item → SetsObjects IsObject item) → (i : ℕ) (item : Flat)
      → slice_get (first ∷ rest) i ≡ Some item → SetsObjects IsObject item
  later_sets first rest sets also zero item at = subst (SetsObjects IsObject) (some_same first item at) sets
  later_sets first rest sets also (suc i) item at = also i item at

  module _ (emit : ℕ → Step → Option Flat) (emits : ℕ → List Step → Option (List Flat)) (each : EmitsEach emit emits) (sets : (n : ℕ) (st : Step) → MaySet IsObject (emit n st)) where
    pub all_set : (n : ℕ) (steps : List Step) (flats : List Flat) → emits n steps ≡ Some flats → (i : ℕ) (item : Flat) → slice_get flats i ≡ Some item → SetsObjects IsObject item
    all_set n [] flats h i item at = absurd (let none : None ≡ Some item = ap (λ fs. slice_get fs i) (some_same [] flats (sym (each.none n) ∙ h)) ∙ at in cc)
    all_set n (st ∷ later) flats h i item at =
        let s = split (emit n st) (emits (suc n) later) flats (sym (each.more n st later) ∙ h) in
        later_sets s.first s.rest (subst (MaySet IsObject) s.first_is (sets n st)) (all_set (suc n) later s.rest s.rest_is) i item (ap (λ fs. slice_get fs i) s.is ∙ at)
