-- The names in items for calls and returns.
use Rattle.std.specs.Prelude.{◌≡◌, ℕ, List, [], ◌∷◌, ◌++◌, Option, Some, None, option_map}
use Rattle.std.proofs.Common.{refl, sym, ◌∙◌, subst}
use Rattle.unit_places.specs.f_tree.declared.names.Basic.{Basic}
use Rattle.unit_places.specs.f_tree.Facts as facts
use Rattle.unit_places.specs.f_tree.Facts.{UnitKind, EntryPoint}
use Rattle.unit_places.specs.l_core.Pures.{Pure, Name}
use Rattle.unit_places.specs.l_core.Steps as step
use Rattle.unit_places.specs.l_core.Steps.{Step}
use Rattle.unit_places.specs.c_tree.Access.{ToNumber}
use Rattle.unit_places.specs.c_tree.Terms as c
use Rattle.unit_places.specs.c_tree.Terms.{Term}
use Rattle.unit_places.specs.c_tree.Flat.{Flat, Callee, Invoke, Return, Ignored, Kept}
use Rattle.unit_places.specs.c_tree.Drafts.{Scope}
use Rattle.unit_places.specs.c_structure.Expressions.{Names}
use Rattle.unit_places.specs.c_structure.Statements.{strings_of_item}
use Rattle.unit_places.specs.c_structure_laws.Fitting.{KnowsCallee}
use Rattle.unit_places.specs.c_emit.Numbers.{Writing, if_number, value_term}
use Rattle.unit_places.specs.emitted_names.KnownNames.{IsPlain, IsKnownBy, strings_of_step, ItemIsKnown}
use Rattle.unit_places.proofs.emitted_names.TermNames.{some_same, held_plain, value_plain, target_plain}
use Rattle.unit_places.proofs.emitted_names.ItemNames.{IsPlainItem, return_plain, emitted_names_are_known}
use Rattle.unit_places.specs.procedure_emission.ProcedureItems.{Numbers, argument_terms, function_called, call_item, basic_wanted, kept_item, call_for_item, result_term, back_item, back_by_item, procedure_item}
use Rattle.unit_file_laws.specs.ProcedureNames.{ArePlain, KnowsUnitStep, ProcedureNamesAreKnown}

module _ (scope : Scope) (names : Names) where
  plainly : (w : Writing) (n : ℕ) (st : Step) (item : Flat) → strings_of_step names w n st ≡ [] → IsPlainItem scope names item → ItemIsKnown scope names w n st item
  plainly w n st item none is = record { knows = is.knows; strings = is.no_strings ∙ sym none }

  -- ## Calls

  ignored_plain : (f : Option Callee) (xs : Option (List Term)) (item : Flat) → call_item Ignored f xs ≡ Some item → ((callee : Callee) → f ≡ Some callee → KnowsCallee scope names callee) → ((ts : List Term) → xs ≡ Some ts → ArePlain scope names ts)
      → IsPlainItem scope names item
  unfolding call_item strings_of_item
  ignored_plain (Some callee) (Some ts) item h calls passes =
      let are = passes ts refl in
      subst (IsPlainItem scope names) (some_same (Invoke Ignored callee ts) item h) (record { knows = (calls callee refl, are.knows); no_strings = are.no_strings })
  ignored_plain (Some callee) None item h calls passes = absurd (cc)
  ignored_plain None xs item h calls passes = absurd (cc)

  kept_plain : (target : Term) (f : Option Callee) (xs : Option (List Term)) (item : Flat) → call_item (Kept target) f xs ≡ Some item → IsPlain scope names target → ((callee : Callee) → f ≡ Some callee → KnowsCallee scope names callee)
      → ((ts : List Term) → xs ≡ Some ts → ArePlain scope names ts) → IsPlainItem scope names item
  unfolding call_item strings_of_item
  kept_plain target (Some callee) (Some ts) item h is calls passes =
      let are = passes ts refl in
      subst (IsPlainItem scope names) (some_same (Invoke (Kept target) callee ts) item h)
      (record { knows = (is.knows, calls callee refl, are.knows); no_strings = (λ i. is.no_strings i ++ are.no_strings i) })
  kept_plain target (Some callee) None item h is calls passes = absurd (cc)
  kept_plain target None xs item h is calls passes = absurd (cc)

  answer_plain : (b : Option Basic) (x : Option Term) (f : Option Callee) (xs : Option (List Term)) (item : Flat) → kept_item b x f xs ≡ Some item → ((t : Term) → x ≡ Some t → IsPlain scope names t)
      → ((callee : Callee) → f ≡ Some callee → KnowsCallee scope names callee) → ((ts : List Term) → xs ≡ Some ts → ArePlain scope names ts) → IsPlainItem scope names item
  unfolding kept_item
  answer_plain (Some basic) (Some target) f xs item h one calls passes = kept_plain target f xs item h (one target refl) calls passes
  answer_plain (Some basic) None f xs item h one calls passes = absurd (cc)
  answer_plain None x f xs item h one calls passes = absurd (cc)

  -- ## Returns

  given_plain : (x : Option Term) (item : Flat) → option_map (λ term. Return (Some term)) x ≡ Some item → ((t : Term) → x ≡ Some t → IsPlain scope names t) → IsPlainItem scope names item
  unfolding strings_of_item
  given_plain (Some t) item h one = subst (IsPlainItem scope names) (some_same (Return (Some t)) item h) (record { knows = (one t refl).knows; no_strings = (one t refl).no_strings })
  given_plain None item h one = absurd (cc)

  module _ (w : Writing) (known : IsKnownBy scope names w) where
    result_known : (entries : List EntryPoint) (t : Term) → result_term w entries ≡ Some t → IsPlain scope names t
    unfolding result_term
    result_known (entry ∷ []) t h = target_plain scope names w known (Name entry.name) t h
    result_known [] t h = absurd (cc)
    result_known (one ∷ other ∷ later) t h = absurd (cc)

    back_plain : (kind : UnitKind) (item : Flat) → back_item w kind ≡ Some item → IsPlainItem scope names item
    unfolding back_item
    back_plain facts.FunctionUnit item h = given_plain (result_term w w.facts.program.entries) item h (result_known w.facts.program.entries)
    back_plain kind item h = return_plain scope names kind item h

    back_by_plain : (p : Pure) (kind : UnitKind) (item : Flat) → back_by_item w p kind ≡ Some item → IsPlainItem scope names item
    unfolding back_by_item
    back_by_plain p facts.SubroutineUnit item h = given_plain (value_term w p) item h (value_plain scope names w known p)
    back_by_plain p kind item h = absurd (cc)

    whole : (numbers : Numbers) (place : ℕ → ℕ) (label : ℕ → Option ℕ) (n : ℕ) (st : Step) (item : Flat) → KnowsUnitStep scope names numbers w n st → procedure_item numbers w place label n st ≡ Some item → ItemIsKnown scope names w n st item
    unfolding procedure_item call_for_item
    whole numbers place label n (step.CallFor k callee ps) item knows h =
        plainly w n (step.CallFor k callee ps) item refl
        (answer_plain (basic_wanted callee.want) (if_number (w.is_number k) (Some (c.Variable (w.naming.temporary k) ToNumber))) (function_called numbers w callee.name) (argument_terms numbers w ps) item h
        (λ t is. held_plain scope names (w.is_number k) (c.Variable (w.naming.temporary k) ToNumber) t is (known.temporaries k)) knows.callee knows.arguments)
    whole numbers place label n (step.CallSub k x ps) item knows h =
        plainly w n (step.CallSub k x ps) item refl (ignored_plain (function_called numbers w x) (argument_terms numbers w ps) item h knows.callee knows.arguments)
    whole numbers place label n step.Back item knows h = plainly w n step.Back item refl (back_plain w.facts.program.kind item h)
    whole numbers place label n (step.BackBy p) item knows h = plainly w n (step.BackBy p) item refl (back_by_plain p w.facts.program.kind item h)
    whole numbers place label n st item knows h = emitted_names_are_known scope names w place label n st item known knows h

pub procedure_names_are_known : ProcedureNamesAreKnown
procedure_names_are_known scope names numbers w place label n st item known knows h = whole scope names w known numbers place label n st item knows h
