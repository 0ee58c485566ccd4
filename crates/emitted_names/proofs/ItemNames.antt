-- The names in emitted items.
use Rattle.std.specs.Prelude.{◌≡◌, ℕ, zero, suc, ◌+◌, ◌-◌, ℤ, pos, Bool, true, false, ◌&&◌, List, [], ◌∷◌, ◌++◌, map, length, Option, Some, None, option_map, option_and_then, codes, if◌then◌else◌}
use Rattle.std.proofs.Common.{refl, sym, ◌∙◌, subst}
use Rattle.std.proofs.lemmas.List.{append-nil}
use Rattle.c_emit.specs.f_tree.Values.{Bytes, Datum, IsInt, IsLog, in_range}
use Rattle.c_emit.specs.f_tree.Facts as facts
use Rattle.c_emit.specs.f_tree.Facts.{Output, Listed, Controls, UnitKind}
use Rattle.c_emit.specs.l_core.Pures.{Pure, Constant, Temporary, Load, Pures, NoPure, AndPure}
use Rattle.c_emit.specs.l_core.Steps as step
use Rattle.c_emit.specs.l_core.Steps.{Step}
use Rattle.c_structure_laws.specs.c_tree.declared.types.CastType.TheVariants as to
use Rattle.c_structure_laws.specs.c_tree.declared.types.ListType.TheVariants as list_type
use Rattle.c_structure_laws.specs.c_tree.declared.expression.UnaryOp.TheVariants as prefix
use Rattle.c_structure_laws.specs.c_tree.Access.{ToNumber, ToChar, ToList}
use Rattle.c_structure_laws.specs.c_tree.Terms as c
use Rattle.c_structure_laws.specs.c_tree.Terms.{Term}
use Rattle.c_structure_laws.specs.c_tree.Flat.{Flat, Assign, Branch, Select, Jump, Invoke, Kept, Direct, Return, Nothing, CaseAt}
use Rattle.c_structure_laws.specs.c_tree.Drafts.{Scope}
use Rattle.c_structure_laws.specs.c_structure.Expressions.{Names, strings_in, strings_in_all}
use Rattle.c_structure_laws.specs.c_structure.Statements.{strings_of_item}
use Rattle.c_structure_laws.specs.Fitting.{Knows, KnowsAll, KnowsItem}
use Rattle.c_emit.specs.Numbers.{Writing, constant_value, one_more, if_number, value_term, place_term}
use Rattle.c_emit.specs.LibraryFunctions.{LibraryFunction, library_function}
use Rattle.c_emit.specs.Types.{type_of}
use Rattle.c_emit.specs.Calls.{call_of, address_of, is_plain, start_on, start_item, if_held, constant_held, held_term, held_terms, routine_of, computed_item, kind_number, item_by, takes_item, finish_item, stop_item}
use Rattle.c_emit.specs.Flats.{assigned, jump_to, cases_to, cases_for, switch_to, returned_by, flat_of}
use Rattle.emitted_names.specs.KnownNames.{IsPlain, IsKnownBy, Calls, CallsFunction, KnowsStep, strings_of_step, ItemIsKnown, EmittedNamesAreKnown}
use Rattle.emitted_names.proofs.TermNames.{some_same, ArePlain, no_terms, and_term, prefixed_plain, cast_plain, held_plain, datum_plain, value_plain, target_plain}

module _ (scope : Scope) (names : Names) where
  -- an item without strings
  pub record IsPlainItem (item : Flat) : Type 0 where
    pub knows : KnowsItem scope names item
    pub no_strings : strings_of_item names item ≡ []

  pub plain_all : (ts : List Term) → ArePlain scope names ts → KnowsAll scope names ts × (strings_in_all names ts ≡ [])
  unfolding strings_in_all
  plain_all [] no_terms = (tt, refl)
  plain_all (t ∷ ts) (and_term one rest) =
      let later = plain_all ts rest in
      ((one.knows, later.0), (λ i. one.no_strings i ++ later.1 i))

  assigned_plain : (target value : Option Term) (item : Flat) → assigned target value ≡ Some item → ((t : Term) → target ≡ Some t → IsPlain scope names t) → ((t : Term) → value ≡ Some t → IsPlain scope names t) → IsPlainItem item
  unfolding assigned strings_of_item
  assigned_plain (Some target) (Some value) item h one other =
      subst IsPlainItem (some_same (Assign target value) item h)
      (record { knows = ((one target refl).knows, (other value refl).knows); no_strings = (λ i. (one target refl).no_strings i ++ (other value refl).no_strings i) })
  assigned_plain (Some target) None item h one other = absurd (cc)
  assigned_plain None value item h one other = absurd (cc)

  branch_plain : (on off : ℕ) (x : Option Term) (item : Flat) → option_map (λ test. Branch test on off) x ≡ Some item → ((t : Term) → x ≡ Some t → IsPlain scope names t) → IsPlainItem item
  unfolding strings_of_item
  branch_plain on off (Some t) item h one = subst IsPlainItem (some_same (Branch t on off) item h) (record { knows = (one t refl).knows; no_strings = (one t refl).no_strings })
  branch_plain on off None item h one = absurd (cc)

  select_plain : (cases : List CaseAt) (otherwise : ℕ) (x : Option Term) (item : Flat) → option_map (λ value. Select value cases otherwise) x ≡ Some item → ((t : Term) → x ≡ Some t → IsPlain scope names t) → IsPlainItem item
  unfolding strings_of_item
  select_plain cases otherwise (Some t) item h one = subst IsPlainItem (some_same (Select t cases otherwise) item h) (record { knows = (one t refl).knows; no_strings = (one t refl).no_strings })
  select_plain cases otherwise None item h one = absurd (cc)

  jump_plain : (position : ℕ) → IsPlainItem (Jump position)
  unfolding strings_of_item
  jump_plain position = record { knows = tt; no_strings = refl }

  nothing_plain : IsPlainItem Nothing
  unfolding strings_of_item
  nothing_plain = record { knows = tt; no_strings = refl }

  goto_plain : (place : ℕ → ℕ) (label : Option ℕ) (item : Flat) → jump_to place label ≡ Some item → IsPlainItem item
  unfolding jump_to
  goto_plain place (Some n) item h = subst IsPlainItem (some_same (Jump (place n)) item h) (jump_plain (place n))
  goto_plain place None item h = absurd (cc)

  pub return_plain : (kind : UnitKind) (item : Flat) → returned_by kind ≡ Some item → IsPlainItem item
  unfolding returned_by strings_of_item strings_in
  return_plain facts.MainProgram item h = subst IsPlainItem (some_same (Return (Some (c.Constant (pos 0)))) item h) (record { knows = tt; no_strings = refl })
  return_plain facts.SubroutineUnit item h = subst IsPlainItem (some_same (Return (Some (c.Constant (pos 0)))) item h) (record { knows = tt; no_strings = refl })
  return_plain kind item h = absurd (cc)

  -- a call of the library
  call_plain : (w : Writing) (name : List ℕ) (ts : List Term) → Calls scope names w name → ArePlain scope names ts → IsPlainItem (call_of w name ts)
  unfolding call_of strings_of_item
  call_plain w name ts calls are = let all = plain_all ts are in record { knows = (calls, all.0); no_strings = all.1 }

  pub address_plain : (t : Term) → IsPlain scope names t → IsPlain scope names (address_of t)
  address_plain t is = prefixed_plain scope names prefix.Address t is

  size_plain : IsPlain scope names (c.Cast to.Length c.Size)
  unfolding strings_in
  size_plain = record { knows = tt; no_strings = refl }

  module _ (w : Writing) (known : IsKnownBy scope names w) where
    start_plain : (n : ℕ) (b : Bool) (item : Flat) → start_on w n b ≡ Some item → Calls scope names w (codes "s_wsle") → IsPlain scope names (c.Variable (w.library.list n) (ToList list_type.Transfer)) → IsPlainItem item
    unfolding start_on
    start_plain n true item h calls list =
        let arguments = address_of (c.Variable (w.library.list n) (ToList list_type.Transfer)) ∷ [] in
        subst IsPlainItem (some_same (call_of w (codes "s_wsle") arguments) item h) (call_plain w (codes "s_wsle") arguments calls (and_term (address_plain (c.Variable (w.library.list n) (ToList list_type.Transfer)) list) no_terms))
    start_plain n false item h calls list = absurd (cc)

    started : (n : ℕ) (controls : Controls) (ps : Pures) (item : Flat) → start_item w n controls ps ≡ Some item → Calls scope names w (codes "s_wsle") → IsPlain scope names (c.Variable (w.library.list n) (ToList list_type.Transfer)) → IsPlainItem item
    unfolding start_item
    started n controls (AndPure (Constant (IsInt unit)) NoPure) item h calls list = start_plain n (is_plain controls && in_range unit) item h calls list
    started n controls ps item h calls list = absurd (cc)

    constant_plain : (z : ℤ) (t : Term) → if_held w z ≡ Some t → IsPlain scope names t
    unfolding if_held
    constant_plain z t h = held_plain scope names (w.library.has z) (c.Variable (w.library.constant z) ToNumber) t h (known.constants z)

    held_constant : (d : Datum) (t : Term) → constant_held w d ≡ Some t → IsPlain scope names t
    unfolding constant_held
    held_constant (IsInt z) t h = constant_plain z t h
    held_constant (IsLog true) t h = constant_plain (pos 1) t h
    held_constant (IsLog false) t h = constant_plain (pos 0) t h
    held_constant d t h = absurd (cc)

    pub held_is : (p : Pure) (t : Term) → held_term w p ≡ Some t → IsPlain scope names t
    unfolding held_term
    held_is (Constant d) t h = held_constant d t h
    held_is (Temporary k) t h = held_plain scope names (w.is_number k) (c.Variable (w.naming.temporary k) ToNumber) t h (known.temporaries k)
    held_is (Load p) t h = target_plain scope names w known p t h
    held_is p t h = absurd (cc)

    addresses_plain : (ts : List Term) → ArePlain scope names ts → ArePlain scope names (map address_of ts)
    addresses_plain [] no_terms = no_terms
    addresses_plain (t ∷ ts) (and_term one rest) = and_term (address_plain t one) (addresses_plain ts rest)

    held_before : (x : Option Term) (xs : Option (List Term)) (ts : List Term) → one_more x xs ≡ Some ts → ((t : Term) → x ≡ Some t → IsPlain scope names t) → ((later : List Term) → xs ≡ Some later → ArePlain scope names later) → ArePlain scope names ts
    unfolding one_more
    held_before (Some t) (Some later) ts h one others = subst (ArePlain scope names) (some_same (t ∷ later) ts h) (and_term (one t refl) (others later refl))
    held_before (Some t) None ts h one others = absurd (cc)
    held_before None xs ts h one others = absurd (cc)

    held_are : (ps : Pures) (ts : List Term) → held_terms w ps ≡ Some ts → ArePlain scope names ts
    unfolding held_terms
    held_are NoPure ts h = subst (ArePlain scope names) (some_same [] ts h) no_terms
    held_are (AndPure p ps) ts h = held_before (held_term w p) (held_terms w ps) ts h (held_is p) (held_are ps)

    -- a call whose value is kept
    kept_plain : (name : List ℕ) (t : Term) (ts : List Term) → Calls scope names w name → IsPlain scope names t → ArePlain scope names ts → IsPlainItem (Invoke (Kept t) (Direct (routine_of w name)) ts)
    unfolding strings_of_item
    kept_plain name t ts calls one are = let all = plain_all ts are in record { knows = (one.knows, calls, all.0); no_strings = (λ i. one.no_strings i ++ all.1 i) }

    computed : (x : Option Term) (o : Option LibraryFunction) (xs : Option (List Term)) (item : Flat) → computed_item w x o xs ≡ Some item → CallsFunction scope names w o → ((t : Term) → x ≡ Some t → IsPlain scope names t)
        → ((ts : List Term) → xs ≡ Some ts → ArePlain scope names ts) → IsPlainItem item
    unfolding computed_item
    computed (Some t) (Some one) (Some ts) item h calls target are =
        subst IsPlainItem (some_same (Invoke (Kept t) (Direct (routine_of w one.name)) (map address_of ts)) item h) (kept_plain one.name t (map address_of ts) calls (target t refl) (addresses_plain ts (are ts refl)))
    computed (Some t) (Some one) None item h calls target are = absurd (cc)
    computed (Some t) None xs item h calls target are = absurd (cc)
    computed None o xs item h calls target are = absurd (cc)

    passed : (kind : ℤ) (term : Term) (b : Bool) (item : Flat) → w.library.has kind && w.library.has (pos 1) ≡ b
        → (if b then Some (call_of w (codes "do_lio") (address_of (c.Variable (w.library.constant kind) ToNumber) ∷ address_of (c.Variable (w.library.constant (pos 1)) ToNumber) ∷ c.Cast to.Chars (address_of term) ∷ c.Cast to.Length c.Size ∷ [])) else None) ≡ Some item
        → Calls scope names w (codes "do_lio") → IsPlain scope names term → IsPlainItem item
    passed kind term true item has h calls is =
        let arguments = address_of (c.Variable (w.library.constant kind) ToNumber) ∷ address_of (c.Variable (w.library.constant (pos 1)) ToNumber) ∷ c.Cast to.Chars (address_of term) ∷ c.Cast to.Length c.Size ∷ [] in
        subst IsPlainItem (some_same (call_of w (codes "do_lio") arguments) item h)
        (call_plain w (codes "do_lio") arguments calls
        (and_term (address_plain (c.Variable (w.library.constant kind) ToNumber) (known.constants kind (left_is (w.library.has kind) (w.library.has (pos 1)) has)))
        (and_term (address_plain (c.Variable (w.library.constant (pos 1)) ToNumber) (known.constants (pos 1) (right_is (w.library.has kind) (w.library.has (pos 1)) has)))
        (and_term (cast_plain scope names to.Chars (address_of term) (address_plain term is)) (and_term size_plain no_terms)))))
      where
        left_is : (a b : Bool) → a && b ≡ true → a ≡ true
        left_is true b h = refl
        left_is false b h = absurd (cc)

        right_is : (a b : Bool) → a && b ≡ true → b ≡ true
        right_is true b h = h
        right_is false b h = absurd (cc)
    passed kind term false item has h calls is = absurd (cc)

    item_plain : (kind : Option ℤ) (x : Option Term) (item : Flat) → item_by w kind x ≡ Some item → Calls scope names w (codes "do_lio") → ((t : Term) → x ≡ Some t → IsPlain scope names t) → IsPlainItem item
    unfolding item_by
    item_plain (Some kind) (Some term) item h calls one = passed kind term (w.library.has kind && w.library.has (pos 1)) item refl h calls (one term refl)
    item_plain (Some kind) None item h calls one = absurd (cc)
    item_plain None x item h calls one = absurd (cc)

    taken : (n : ℕ) (ps : Pures) (item : Flat) → takes_item w n ps ≡ Some item → Calls scope names w (codes "do_lio") → IsPlainItem item
    unfolding takes_item
    taken n (AndPure p NoPure) item h calls = item_plain (option_and_then kind_number (type_of w n p)) (held_term w p) item h calls (held_is p)
    taken n ps item h calls = absurd (cc)

    finished : (ps : Pures) (item : Flat) → finish_item w ps ≡ Some item → Calls scope names w (codes "e_wsle") → IsPlainItem item
    unfolding finish_item
    finished NoPure item h calls = subst IsPlainItem (some_same (call_of w (codes "e_wsle") []) item h) (call_plain w (codes "e_wsle") [] calls no_terms)
    finished ps item h calls = absurd (cc)

    stopped : (n : ℕ) (text : Bytes) → Calls scope names w (codes "s_stop") → Knows scope names (c.Array (w.library.text n) ToChar) → ItemIsKnown scope names w n (step.Halt text) (stop_item w n text)
    unfolding stop_item call_of strings_of_item strings_in_all strings_in
    stopped n text calls passes = record { knows = (calls, (passes, (tt, tt))); strings = append-nil (strings_in names (c.Array (w.library.text n) ToChar)) }

    plainly : (n : ℕ) (st : Step) (item : Flat) → strings_of_step names w n st ≡ [] → IsPlainItem item → ItemIsKnown scope names w n st item
    plainly n st item none is = record { knows = is.knows; strings = is.no_strings ∙ sym none }

    whole : (place : ℕ → ℕ) (label : ℕ → Option ℕ) (n : ℕ) (st : Step) (item : Flat) → KnowsStep scope names w n st → flat_of w place label n st ≡ Some item → ItemIsKnown scope names w n st item
    unfolding flat_of switch_to
    whole place label n (step.Put target p) item knows h = plainly n (step.Put target p) item refl (assigned_plain (place_term w target) (value_term w p) item h (target_plain scope names w known target) (value_plain scope names w known p))
    whole place label n (step.PutLabel target l) item knows h =
        plainly n (step.PutLabel target l) item refl (assigned_plain (place_term w target) (constant_value (IsInt (pos l))) item h (target_plain scope names w known target) (datum_plain scope names (IsInt (pos l))))
    whole place label n (step.Keep k p) item knows h =
        plainly n (step.Keep k p) item refl (assigned_plain (if_number (w.is_number k) (Some (c.Variable (w.naming.temporary k) ToNumber))) (value_term w p) item h
        (λ t is. held_plain scope names (w.is_number k) (c.Variable (w.naming.temporary k) ToNumber) t is (known.temporaries k)) (value_plain scope names w known p))
    whole place label n (step.Compute k f ps) item knows h =
        plainly n (step.Compute k f ps) item refl (computed (if_number (w.is_number k) (Some (c.Variable (w.naming.temporary k) ToNumber))) (library_function f) (held_terms w ps) item h knows
        (λ t is. held_plain scope names (w.is_number k) (c.Variable (w.naming.temporary k) ToNumber) t is (known.temporaries k)) (held_are ps))
    whole place label n (step.Unless p m) item knows h = plainly n (step.Unless p m) item refl (branch_plain (place (suc n)) (place (suc n + m)) (value_term w p) item h (value_plain scope names w known p))
    whole place label n (step.AgainIf p m) item knows h = plainly n (step.AgainIf p m) item refl (branch_plain (place (n - m)) (place (suc n)) (value_term w p) item h (value_plain scope names w known p))
    whole place label n (step.Skip m) item knows h = plainly n (step.Skip m) item refl (subst IsPlainItem (some_same (Jump (place (suc n + m))) item h) (jump_plain (place (suc n + m))))
    whole place label n (step.Again m) item knows h = plainly n (step.Again m) item refl (subst IsPlainItem (some_same (Jump (place (n - m))) item h) (jump_plain (place (n - m))))
    whole place label n (step.Jump l) item knows h = plainly n (step.Jump l) item refl (goto_plain place (label l) item h)
    whole place label n (step.Select p count) item knows h =
        plainly n (step.Select p count) item refl (select_plain (cases_to place 1 (suc n) count) (place (suc n + count)) (value_term w p) item h (value_plain scope names w known p))
    whole place label n (step.Branch k count) item knows h =
        plainly n (step.Branch k count) item refl
        (select_plain (cases_to place 1 (suc n) count) (place (suc n + count)) (value_term w (Temporary k)) item h (value_plain scope names w known (Temporary k)))
    whole place label n (step.Way l) item knows h = plainly n (step.Way l) item refl (goto_plain place (label l) item h)
    whole place label n (step.JumpBy p labels) item knows h =
        plainly n (step.JumpBy p labels) item refl (select_plain (cases_for place (suc n) labels) (place (suc n + length labels)) (place_term w p) item h (target_plain scope names w known p))
    whole place label n step.Pass item knows h = plainly n step.Pass item refl (subst IsPlainItem (some_same Nothing item h) nothing_plain)
    whole place label n step.Back item knows h = plainly n step.Back item refl (return_plain w.facts.program.kind item h)
    whole place label n (step.Acts (step.Starts Output Listed controls) ps m) item knows h = plainly n (step.Acts (step.Starts Output Listed controls) ps m) item refl (started n controls ps item h knows.0 knows.1)
    whole place label n (step.Acts step.Takes ps m) item knows h = plainly n (step.Acts step.Takes ps m) item refl (taken n ps item h knows)
    whole place label n (step.Acts step.Finishes ps zero) item knows h = plainly n (step.Acts step.Finishes ps zero) item refl (finished ps item h knows)
    whole place label n (step.Halt text) item knows h = subst (ItemIsKnown scope names w n (step.Halt text)) (some_same (stop_item w n text) item h) (stopped n text knows.0 knows.1)
    whole place label n st item knows h = absurd (cc)

pub emitted_names_are_known : EmittedNamesAreKnown
emitted_names_are_known scope names w place label n st item known knows h = whole scope names w known place label n st item knows h
