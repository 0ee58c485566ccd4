-- The items that are emitted take no fields of lists.
use Rattle.std.specs.Prelude.{◌≡◌, ℕ, zero, suc, ◌+◌, ◌-◌, ℤ, pos, Bool, true, false, ◌&&◌, List, [], ◌∷◌, map, length, Option, Some, None, option_map, option_and_then, codes, if◌then◌else◌}
use Rattle.std.proofs.Common.{refl, subst}
use Rattle.main_translation_laws.specs.f_tree.Values.{Bytes, Datum, IsInt, IsLog, in_range}
use Rattle.main_translation_laws.specs.f_tree.Facts as facts
use Rattle.main_translation_laws.specs.f_tree.Facts.{Output, Listed, Controls, UnitKind}
use Rattle.main_translation_laws.specs.l_core.Pures.{Pure, Constant, Temporary, Load, Pures, NoPure, AndPure}
use Rattle.main_translation_laws.specs.l_core.Steps as step
use Rattle.main_translation_laws.specs.l_core.Steps.{Step}
use Rattle.main_translation_laws.specs.c_tree.declared.types.CastType.TheVariants as to
use Rattle.main_translation_laws.specs.c_tree.declared.types.ListType.TheVariants as list_type
use Rattle.main_translation_laws.specs.c_tree.Access.{ToNumber, ToChar, ToList}
use Rattle.main_translation_laws.specs.c_tree.Terms as c
use Rattle.main_translation_laws.specs.c_tree.Terms.{Term}
use Rattle.main_translation_laws.specs.c_tree.Flat.{Flat, Assign, Branch, Select, Jump, Invoke, Kept, Direct, Return, Nothing, CaseAt}
use Rattle.main_translation_laws.specs.c_emit.LibraryFunctions.{LibraryFunction, library_function}
use Rattle.main_translation_laws.specs.c_emit.Numbers.{Writing, constant_value, one_more, if_number, value_term, place_term}
use Rattle.main_translation_laws.specs.c_emit.Types.{type_of}
use Rattle.main_translation_laws.specs.c_emit.Calls.{call_of, address_of, is_plain, start_on, start_item, if_held, constant_held, held_term, held_terms, routine_of, computed_item, kind_number, item_by, takes_item, finish_item, stop_item}
use Rattle.main_translation_laws.specs.c_emit.Flats.{assigned, jump_to, cases_to, cases_for, switch_to, returned_by, flat_of}
use Rattle.main_translation_laws.proofs.linking_laws.Places.{some_same}
use Rattle.main_translation_laws.specs.main_file.MainItems.{item_before, flats_from}
use Rattle.main_file_texts.specs.WellFormedMains.{HasNoField, HaveNoField, no_terms, and_term, ItemHasNoField, ItemsHaveNoField}
use Rattle.main_file_texts.proofs.Fieldless.{datum_fieldless, held_fieldless, value_fieldless, target_fieldless}

assigned_fieldless : (target value : Option Term) (item : Flat) → assigned target value ≡ Some item → ((t : Term) → target ≡ Some t → HasNoField t) → ((t : Term) → value ≡ Some t → HasNoField t) → ItemHasNoField item
unfolding assigned
assigned_fieldless (Some target) (Some value) item h one other = subst ItemHasNoField (some_same (Assign target value) item h) (one target refl, other value refl)
assigned_fieldless (Some target) None item h one other = absurd (cc)
assigned_fieldless None value item h one other = absurd (cc)

branch_fieldless : (on off : ℕ) (x : Option Term) (item : Flat) → option_map (λ test. Branch test on off) x ≡ Some item → ((t : Term) → x ≡ Some t → HasNoField t) → ItemHasNoField item
branch_fieldless on off (Some t) item h one = subst ItemHasNoField (some_same (Branch t on off) item h) (one t refl)
branch_fieldless on off None item h one = absurd (cc)

select_fieldless : (cases : List CaseAt) (otherwise : ℕ) (x : Option Term) (item : Flat) → option_map (λ value. Select value cases otherwise) x ≡ Some item → ((t : Term) → x ≡ Some t → HasNoField t) → ItemHasNoField item
select_fieldless cases otherwise (Some t) item h one = subst ItemHasNoField (some_same (Select t cases otherwise) item h) (one t refl)
select_fieldless cases otherwise None item h one = absurd (cc)

goto_fieldless : (place : ℕ → ℕ) (label : Option ℕ) (item : Flat) → jump_to place label ≡ Some item → ItemHasNoField item
unfolding jump_to
goto_fieldless place (Some n) item h = subst ItemHasNoField (some_same (Jump (place n)) item h) tt
goto_fieldless place None item h = absurd (cc)

pub return_fieldless : (kind : UnitKind) (item : Flat) → returned_by kind ≡ Some item → ItemHasNoField item
unfolding returned_by
return_fieldless facts.MainProgram item h = subst ItemHasNoField (some_same (Return (Some (c.Constant (pos 0)))) item h) tt
return_fieldless facts.SubroutineUnit item h = subst ItemHasNoField (some_same (Return (Some (c.Constant (pos 0)))) item h) tt
return_fieldless kind item h = absurd (cc)

-- a call of the library
call_fieldless : (w : Writing) (name : List ℕ) (ts : List Term) → HaveNoField ts → ItemHasNoField (call_of w name ts)
unfolding call_of
call_fieldless w name ts are = are

module _ (w : Writing) where
  start_fieldless : (n : ℕ) (b : Bool) (item : Flat) → start_on w n b ≡ Some item → ItemHasNoField item
  unfolding start_on
  start_fieldless n true item h =
      let arguments = address_of (c.Variable (w.library.list n) (ToList list_type.Transfer)) ∷ [] in
      subst ItemHasNoField (some_same (call_of w (codes "s_wsle") arguments) item h) (call_fieldless w (codes "s_wsle") arguments (and_term tt no_terms))
  start_fieldless n false item h = absurd (cc)

  started : (n : ℕ) (controls : Controls) (ps : Pures) (item : Flat) → start_item w n controls ps ≡ Some item → ItemHasNoField item
  unfolding start_item
  started n controls (AndPure (Constant (IsInt unit)) NoPure) item h = start_fieldless n (is_plain controls && in_range unit) item h
  started n controls ps item h = absurd (cc)

  constant_fieldless : (z : ℤ) (t : Term) → if_held w z ≡ Some t → HasNoField t
  unfolding if_held
  constant_fieldless z t h = held_fieldless (w.library.has z) (c.Variable (w.library.constant z) ToNumber) t h (λ holds. tt)

  held_constant : (d : Datum) (t : Term) → constant_held w d ≡ Some t → HasNoField t
  unfolding constant_held
  held_constant (IsInt z) t h = constant_fieldless z t h
  held_constant (IsLog true) t h = constant_fieldless (pos 1) t h
  held_constant (IsLog false) t h = constant_fieldless (pos 0) t h
  held_constant d t h = absurd (cc)

  pub held_is : (p : Pure) (t : Term) → held_term w p ≡ Some t → HasNoField t
  unfolding held_term
  held_is (Constant d) t h = held_constant d t h
  held_is (Temporary k) t h = held_fieldless (w.is_number k) (c.Variable (w.naming.temporary k) ToNumber) t h (λ holds. tt)
  held_is (Load p) t h = target_fieldless w p t h
  held_is p t h = absurd (cc)

  held_before : (x : Option Term) (xs : Option (List Term)) (ts : List Term) → one_more x xs ≡ Some ts → ((t : Term) → x ≡ Some t → HasNoField t) → ((later : List Term) → xs ≡ Some later → HaveNoField later) → HaveNoField ts
  unfolding one_more
  held_before (Some t) (Some later) ts h one others = subst HaveNoField (some_same (t ∷ later) ts h) (and_term (one t refl) (others later refl))
  held_before (Some t) None ts h one others = absurd (cc)
  held_before None xs ts h one others = absurd (cc)

  held_are : (ps : Pures) (ts : List Term) → held_terms w ps ≡ Some ts → HaveNoField ts
  unfolding held_terms
  held_are NoPure ts h = subst HaveNoField (some_same [] ts h) no_terms
  held_are (AndPure p ps) ts h = held_before (held_term w p) (held_terms w ps) ts h (held_is p) (held_are ps)

  addresses_fieldless : (ts : List Term) → HaveNoField ts → HaveNoField (map address_of ts)
  addresses_fieldless [] no_terms = no_terms
  addresses_fieldless (t ∷ ts) (and_term one rest) = and_term one (addresses_fieldless ts rest)

  computed_fieldless : (x : Option Term) (o : Option LibraryFunction) (xs : Option (List Term)) (item : Flat) → computed_item w x o xs ≡ Some item → ((t : Term) → x ≡ Some t → HasNoField t) → ((ts : List Term) → xs ≡ Some ts → HaveNoField ts) → ItemHasNoField item
  unfolding computed_item
  computed_fieldless (Some t) (Some one) (Some ts) item h target are = subst ItemHasNoField (some_same (Invoke (Kept t) (Direct (routine_of w one.name)) (map address_of ts)) item h) (target t refl, addresses_fieldless ts (are ts refl))
  computed_fieldless (Some t) (Some one) None item h target are = absurd (cc)
  computed_fieldless (Some t) None xs item h target are = absurd (cc)
  computed_fieldless None o xs item h target are = absurd (cc)

  passed : (kind : ℤ) (term : Term) (b : Bool) (item : Flat)
      → (if b then Some (call_of w (codes "do_lio") (address_of (c.Variable (w.library.constant kind) ToNumber) ∷ address_of (c.Variable (w.library.constant (pos 1)) ToNumber) ∷ c.Cast to.Chars (address_of term) ∷ c.Cast to.Length c.Size ∷ [])) else None) ≡ Some item
      → HasNoField term → ItemHasNoField item
  passed kind term true item h is =
      let arguments = address_of (c.Variable (w.library.constant kind) ToNumber) ∷ address_of (c.Variable (w.library.constant (pos 1)) ToNumber) ∷ c.Cast to.Chars (address_of term) ∷ c.Cast to.Length c.Size ∷ [] in
      subst ItemHasNoField (some_same (call_of w (codes "do_lio") arguments) item h) (call_fieldless w (codes "do_lio") arguments (and_term tt (and_term tt (and_term is (and_term tt no_terms)))))
  passed kind term false item h is = absurd (cc)

  item_fieldless : (kind : Option ℤ) (x : Option Term) (item : Flat) → item_by w kind x ≡ Some item → ((t : Term) → x ≡ Some t → HasNoField t) → ItemHasNoField item
  unfolding item_by
  item_fieldless (Some kind) (Some term) item h one = passed kind term (w.library.has kind && w.library.has (pos 1)) item h (one term refl)
  item_fieldless (Some kind) None item h one = absurd (cc)
  item_fieldless None x item h one = absurd (cc)

  taken : (n : ℕ) (ps : Pures) (item : Flat) → takes_item w n ps ≡ Some item → ItemHasNoField item
  unfolding takes_item
  taken n (AndPure p NoPure) item h = item_fieldless (option_and_then kind_number (type_of w n p)) (held_term w p) item h (held_is p)
  taken n ps item h = absurd (cc)

  finished : (ps : Pures) (item : Flat) → finish_item w ps ≡ Some item → ItemHasNoField item
  unfolding finish_item
  finished NoPure item h = subst ItemHasNoField (some_same (call_of w (codes "e_wsle") []) item h) (call_fieldless w (codes "e_wsle") [] no_terms)
  finished ps item h = absurd (cc)

  stopped : (n : ℕ) (text : Bytes) → ItemHasNoField (stop_item w n text)
  unfolding stop_item
  stopped n text = call_fieldless w (codes "s_stop") (c.Array (w.library.text n) ToChar ∷ c.Cast to.Length (c.Constant (pos (length text))) ∷ []) (and_term tt (and_term tt no_terms))

  pub flat_fieldless : (place : ℕ → ℕ) (label : ℕ → Option ℕ) (n : ℕ) (st : Step) (item : Flat) → flat_of w place label n st ≡ Some item → ItemHasNoField item
  unfolding flat_of switch_to
  flat_fieldless place label n (step.Put target p) item h = assigned_fieldless (place_term w target) (value_term w p) item h (target_fieldless w target) (value_fieldless w p)
  flat_fieldless place label n (step.PutLabel target l) item h =
      assigned_fieldless (place_term w target) (constant_value (IsInt (pos l))) item h (target_fieldless w target) (datum_fieldless (IsInt (pos l)))
  flat_fieldless place label n (step.Keep k p) item h =
      assigned_fieldless (if_number (w.is_number k) (Some (c.Variable (w.naming.temporary k) ToNumber))) (value_term w p) item h
      (λ t is. held_fieldless (w.is_number k) (c.Variable (w.naming.temporary k) ToNumber) t is (λ holds. tt)) (value_fieldless w p)
  flat_fieldless place label n (step.Compute k f ps) item h =
      computed_fieldless (if_number (w.is_number k) (Some (c.Variable (w.naming.temporary k) ToNumber))) (library_function f) (held_terms w ps) item h
      (λ t is. held_fieldless (w.is_number k) (c.Variable (w.naming.temporary k) ToNumber) t is (λ holds. tt)) (held_are ps)
  flat_fieldless place label n (step.Unless p m) item h = branch_fieldless (place (suc n)) (place (suc n + m)) (value_term w p) item h (value_fieldless w p)
  flat_fieldless place label n (step.AgainIf p m) item h = branch_fieldless (place (n - m)) (place (suc n)) (value_term w p) item h (value_fieldless w p)
  flat_fieldless place label n (step.Select p count) item h = select_fieldless (cases_to place 1 (suc n) count) (place (suc n + count)) (value_term w p) item h (value_fieldless w p)
  flat_fieldless place label n (step.JumpBy p labels) item h = select_fieldless (cases_for place (suc n) labels) (place (suc n + length labels)) (place_term w p) item h (target_fieldless w p)
  flat_fieldless place label n (step.Skip m) item h = subst ItemHasNoField (some_same (Jump (place (suc n + m))) item h) tt
  flat_fieldless place label n (step.Again m) item h = subst ItemHasNoField (some_same (Jump (place (n - m))) item h) tt
  flat_fieldless place label n (step.Jump l) item h = goto_fieldless place (label l) item h
  flat_fieldless place label n (step.Branch k count) item h =
      select_fieldless (cases_to place 1 (suc n) count) (place (suc n + count)) (value_term w (Temporary k)) item h (value_fieldless w (Temporary k))
  flat_fieldless place label n (step.Way l) item h = goto_fieldless place (label l) item h
  flat_fieldless place label n step.Pass item h = subst ItemHasNoField (some_same Nothing item h) tt
  flat_fieldless place label n step.Back item h = return_fieldless w.facts.program.kind item h
  flat_fieldless place label n (step.Acts (step.Starts Output Listed controls) ps m) item h = started n controls ps item h
  flat_fieldless place label n (step.Acts step.Takes ps m) item h = taken n ps item h
  flat_fieldless place label n (step.Acts step.Finishes ps zero) item h = finished ps item h
  flat_fieldless place label n (step.Halt text) item h = subst ItemHasNoField (some_same (stop_item w n text) item h) (stopped n text)
  flat_fieldless place label n st item h = absurd (cc)

  pub before_fieldless : (x : Option Flat) (xs : Option (List Flat)) (items : List Flat) → item_before x xs ≡ Some items → ((item : Flat) → x ≡ Some item → ItemHasNoField item) → ((later : List Flat) → xs ≡ Some later → ItemsHaveNoField later) → ItemsHaveNoField items
  unfolding item_before
  before_fieldless (Some item) (Some later) items h one others = subst ItemsHaveNoField (some_same (item ∷ later) items h) (one item refl, others later refl)
  before_fieldless (Some item) None items h one others = absurd (cc)
  before_fieldless None xs items h one others = absurd (cc)

  pub items_fieldless : (label : ℕ → Option ℕ) (n : ℕ) (steps : List Step) (items : List Flat) → flats_from w label n steps ≡ Some items → ItemsHaveNoField items
  unfolding flats_from
  items_fieldless label n [] items h = subst ItemsHaveNoField (some_same [] items h) tt
  items_fieldless label n (st ∷ later) items h =
      before_fieldless (flat_of w (λ m. m) label n st) (flats_from w label (suc n) later) items h (flat_fieldless (λ m. m) label n st) (items_fieldless label (suc n) later)
