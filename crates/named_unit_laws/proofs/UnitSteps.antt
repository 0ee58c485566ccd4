-- What the items of a unit's steps set, and that what they take is listed. ANSI X3.9-1978, sections 10 to 12 and 15; C89, 3.6.
use Rattle.std.specs.Prelude.{◌≡◌, ℕ, suc, ◌+◌, nat_eq, ℤ, List, [], ◌∷◌, position, Option, Some, None, option_map, slice_get}
use Rattle.std.proofs.Common.{refl, ap, ◌∙◌, subst, arith}
use Rattle.named_units.specs.f_tree.declared.names.Basic.{Basic}
use Rattle.named_units.specs.f_tree.Values.{Bytes}
use Rattle.named_units.specs.f_tree.Facts.{Facts, Output, Listed, UnitKind, MainProgram, SubroutineUnit, FunctionUnit, BlockDataUnit}
use Rattle.named_units.specs.l_core.Pures.{Pure}
use Rattle.named_units.specs.l_core.Steps as step
use Rattle.named_units.specs.l_core.Steps.{Step, Halt}
use Rattle.named_units.specs.c_tree.Terms.{Term, Variable}
use Rattle.named_units.specs.c_tree.Access.{ToNumber}
use Rattle.named_units.specs.c_tree.Flat as flat
use Rattle.named_units.specs.c_tree.Flat.{Flat, Assign, Use, Return, Ignored, Kept}
use Rattle.named_units.specs.c_emit.Numbers.{Writing, if_number, value_term}
use Rattle.named_units.specs.main_file.MainItems.{stops_from}
use Rattle.named_units.specs.procedure_emission.bound_items.BoundItems.{Saving, saving_item}
use Rattle.named_units.specs.procedure_emission.ProcedureItems.{Numbers, argument_terms, function_called, call_item, basic_wanted, kept_item, call_for_item, result_term, back_item, back_by_item, procedure_item}
use Rattle.named_units.specs.unit_file.UnitFile.{KeptBound, Inventory}
use Rattle.named_units.specs.unit_file.UnitItems.{unit_items, saving_items}
use Rattle.named_units.specs.unit_file.UnitSavings.{savings_from}
use Rattle.named_units.specs.named_items.declared.item.Item.{Item}
use Rattle.named_units.specs.item_emission.NamedEmission.{Kinds, acting_step, item_step}
use Rattle.named_units.specs.unit_item_laws.AgreeingUnits.{known_of_unit, IsListed}
use Rattle.named_main_laws.proofs.NamedPlaces.{Reach, Own, SetsObjects}
use Rattle.named_main_laws.proofs.NamedValues.{EmitsEach, split, WritesObjects, MayName, MaySet, return_sets, value_names, step_sets, later_sets}
use Rattle.named_main_laws.proofs.NamedSteps.{stop_placed, start_listed}

pub unit_items_each : (numbers : Numbers) (w : Writing) (label : ℕ → Option ℕ) → EmitsEach (procedure_item numbers w (λ m. m) label) (unit_items numbers w label)
unfolding unit_items
unit_items_each numbers w label = record { none = λ n. refl; more = λ n st later. refl }

-- ## What items set

module _ (IsObject : Reach → ℕ → Type 0) where
  call_sets : (how : Use) (o : Option flat.Callee) (os : Option (List Term)) → MaySet IsObject (call_item how o os)
  unfolding call_item
  call_sets how (Some callee) (Some terms) = tt
  call_sets how (Some callee) None = tt
  call_sets how None os = tt

  kept_sets : (o : Option Basic) (target : Option Term) (callee : Option flat.Callee) (os : Option (List Term)) → MaySet IsObject (kept_item o target callee os)
  unfolding kept_item
  kept_sets (Some basic) (Some target) callee os = call_sets (Kept target) callee os
  kept_sets (Some basic) None callee os = tt
  kept_sets None target callee os = tt

  given_sets : (o : Option Term) → MaySet IsObject (option_map (λ term. Return (Some term)) o)
  given_sets (Some t) = tt
  given_sets None = tt

  module _ (numbers : Numbers) (w : Writing) (writes : WritesObjects IsObject w) (label : ℕ → Option ℕ) where
    back_sets : (kind : UnitKind) → MaySet IsObject (back_item w kind)
    unfolding back_item
    back_sets FunctionUnit = given_sets (result_term w w.facts.program.entries)
    back_sets MainProgram = return_sets IsObject MainProgram
    back_sets SubroutineUnit = return_sets IsObject SubroutineUnit
    back_sets BlockDataUnit = return_sets IsObject BlockDataUnit

    alternate_sets : (p : Pure) (kind : UnitKind) → MaySet IsObject (back_by_item w p kind)
    unfolding back_by_item
    alternate_sets p SubroutineUnit = given_sets (value_term w p)
    alternate_sets p kind = tt

    pub unit_step_sets : (n : ℕ) (st : Step) → MaySet IsObject (procedure_item numbers w (λ m. m) label n st)
    unfolding procedure_item call_for_item
    unit_step_sets n (step.CallFor k callee ps) =
        kept_sets (basic_wanted callee.want) (if_number (w.is_number k) (Some (Variable (w.naming.temporary k) ToNumber))) (function_called numbers w callee.name) (argument_terms numbers w ps)
    unit_step_sets n (step.CallSub k x ps) = call_sets Ignored (function_called numbers w x) (argument_terms numbers w ps)
    unit_step_sets n step.Back = back_sets w.facts.program.kind
    unit_step_sets n (step.BackBy p) = alternate_sets p w.facts.program.kind
    unit_step_sets n st = step_sets IsObject w writes label n st

  -- ### Bounds that are kept

  kept_by : (k : ℕ) (o : Option Term) → IsObject Own k → MayName IsObject o → MaySet IsObject (option_map (Assign (Variable k ToNumber)) o)
  kept_by k (Some t) own known = (own, known)
  kept_by k None own known = tt

  module _ (w : Writing) (writes : WritesObjects IsObject w) where
    saving_sets : (one : Saving) → IsObject Own one.object → MaySet IsObject (saving_item w one)
    unfolding saving_item
    saving_sets one own = kept_by one.object (value_term w one.value) own (value_names IsObject w writes one.value)

    pub savings_set : (first : ℕ) (bounds : List KeptBound) (behind : Option (List Flat)) (flats : List Flat) → ((i : ℕ) (one : KeptBound) → slice_get bounds i ≡ Some one → IsObject Own (first + i))
        → ((fs : List Flat) → behind ≡ Some fs → (i : ℕ) (item : Flat) → slice_get fs i ≡ Some item → SetsObjects IsObject item) → saving_items w (savings_from first bounds) behind ≡ Some flats
        → (i : ℕ) (item : Flat) → slice_get flats i ≡ Some item → SetsObjects IsObject item
    unfolding savings_from saving_items
    savings_set first [] behind flats own later h i item at = later flats h i item at
    savings_set first (one ∷ bounds) behind flats own later h i item at =
        let saving : Saving = record { object = first; value = one.value } in
        let s = split (saving_item w saving) (saving_items w (savings_from (suc first) bounds) behind) flats h in
        let here : IsObject Own first = subst (IsObject Own) {x = first + 0} {y = first} (omega arith) (own 0 one refl) in
        later_sets IsObject s.first s.rest (subst (MaySet IsObject) s.first_is (saving_sets saving here))
        (savings_set (suc first) bounds behind s.rest (λ k other there. subst (IsObject Own) {x = first + suc k} {y = suc first + k} (omega arith) (own (suc k) other there)) later s.rest_is) i item (ap (λ fs. slice_get fs i) s.is ∙ at)

-- ## What is listed

module _ (constants : List ℤ) (vs : List Inventory) (v : Inventory) (facts : Facts) (numbers : Numbers) (kind : ℕ → Kinds) (label : ℕ → Option ℕ) where
  -- a step with an item has its control list, or its string
  pub step_listed : (n : ℕ) (steps : List Step) (st : Step) (item : Item) → v.strings ≡ stops_from 0 steps → ((text : Bytes) → slice_get steps n ≡ Some (Halt text) → v.texts n ≡ text) → slice_get steps n ≡ Some st
      → item_step (known_of_unit constants vs v facts numbers label) (kind n) n st ≡ Some item → IsListed v n st
  unfolding item_step acting_step
  step_listed n steps (step.Acts (step.Starts Output Listed controls) ps m) item strings texts at h = start_listed (known_of_unit constants vs v facts numbers label) n controls ps item h
  step_listed n steps (step.Acts (step.Starts way layout controls) ps m) item strings texts at h = absurd (cc)
  step_listed n steps (Halt text) item strings texts at h =
      let placed = stop_placed 0 n n steps text (omega arith) at in (placed.0, ap (position (nat_eq n)) strings ∙ placed.1, texts text at)
  step_listed n steps st item strings texts at h = tt
