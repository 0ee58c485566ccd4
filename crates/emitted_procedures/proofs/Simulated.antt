-- The function of a unit simulates its lowered text.
use Rattle.std.specs.Prelude.{◌≡◌, ℕ, Bool, true, false, List, Option, Some, None, slice_get}
use Rattle.std.proofs.Common.{refl, sym, subst}
use Rattle.procedure_emission.specs.simulation.LocalSimulation.{Meets, Local}
use Rattle.procedure_emission.specs.f_tree.World as fortran
use Rattle.procedure_emission.specs.f_tree.Association as association
use Rattle.procedure_emission.specs.l_core.Steps.{Step, Keep, Put, PutText, PutLabel, Compute, Unless, AgainIf, Skip, Again, Jump, Select, JumpBy, Pass, CallFor, CallSub, Branch, Way, Back, BackBy, Halt, Acts, Text}
use Rattle.procedure_emission.specs.l_core.Machine.{View, done, step}
use Rattle.procedure_emission.specs.l_core.Machine as lower
use Rattle.procedure_emission.specs.l_core.Costs.{cost}
use Rattle.procedure_emission.specs.c_tree.Terms.{Term}
use Rattle.procedure_emission.specs.c_tree.Flat.{Flat}
use Rattle.procedure_emission.specs.c_tree.World as c
use Rattle.procedure_emission.specs.c_tree.Steps as c_steps
use Rattle.procedure_emission.specs.c_emit.Numbers.{Writing, if_number}
use Rattle.procedure_emission.specs.c_emit.LibraryFunctions.{LibraryFunction}
use Rattle.procedure_emission.specs.c_emit.Calls.{computed_item}
use Rattle.procedure_emission.specs.c_emit.Flats.{assigned, switch_to, flat_of}
use Rattle.procedure_emission.specs.c_emit_laws.EmittedFlats.{by_put, by_label, by_test, by_test_back, by_skip, by_return, by_jump, by_select, by_held, by_branch, by_way, by_pass}
use Rattle.procedure_emission.proofs.c_emit_laws.Choices.{some_same}
use Rattle.procedure_emission.specs.emitted_texts.SecondLayer.{Surroundings, Emission}
use Rattle.procedure_emission.specs.ProcedureItems.{procedure_item}
use Rattle.procedure_emission.proofs.late_starts.LateFollows.{follows_late}
use Rattle.procedure_emission.specs.CallLayer.{CallWorld, IsAtStep, call_couple, IsEarly, entered_couple}
use Rattle.procedure_emission.specs.EmittedUnits.{IsItem, IsEmittedUnit, IsCosted}
use Rattle.emitted_procedures.specs.SimulatedUnits.{UnitsAreSimulated}
use Rattle.emitted_procedures.proofs.Answering.{answers, answers_by}
use Rattle.emitted_procedures.proofs.Calling.{calls_function, calls_subroutine}
use Rattle.emitted_procedures.proofs.Opening.{opened}
use Rattle.emitted_procedures.proofs.Steering.{steered, keeps, computes}
use Rattle.emitted_procedures.proofs.Transferring.{halted, acted}

module _ (s : Surroundings) (number : ℕ) (u : Text) (costs : List ℕ) (e : Emission) (is : IsEmittedUnit s number u costs e) where
  numeric_by : (holds : Bool) (target value : Option Term) (item : Flat) → assigned (if_number holds target) value ≡ Some item → holds ≡ true
  unfolding assigned if_number
  numeric_by true target value item emitted = refl
  numeric_by false target value item emitted = absurd (cc)

  computed_number : (w : Writing) (holds : Bool) (target : Option Term) (o : Option LibraryFunction) (terms : Option (List Term)) (item : Flat) → computed_item w (if_number holds target) o terms ≡ Some item → holds ≡ true
  unfolding computed_item if_number
  computed_number w true target o terms item emitted = refl
  computed_number w false target o terms item emitted = absurd (cc)

  none_emitted : {A : Type 0} (item : Flat) → None ≡ Some item → A
  none_emitted item emitted = absurd (cc)

  each : (μ : CallWorld) (v : View) (x : fortran.World) (w : c_steps.View) (y : c.World) → IsAtStep s number e μ v x w y → (st : Step) → slice_get u.steps v.at ≡ Some st → IsItem s u e v.at st
      → Meets (call_couple s number u costs e) μ w y (cost costs v.at) (step u v x)
  unfolding procedure_item flat_of switch_to
  each μ v x w y now (Put place p) at item = steered s number u costs e is μ v x w y now (Put place p) at item (by_put place p) item.emitted (step u v x) refl
  each μ v x w y now (PutLabel place label) at item = steered s number u costs e is μ v x w y now (PutLabel place label) at item (by_label place label) item.emitted (step u v x) refl
  each μ v x w y now (Unless p n) at item = steered s number u costs e is μ v x w y now (Unless p n) at item (by_test p n) item.emitted (step u v x) refl
  each μ v x w y now (AgainIf p n) at item = steered s number u costs e is μ v x w y now (AgainIf p n) at item (by_test_back p n) item.emitted (step u v x) refl
  each μ v x w y now (Skip n) at item = steered s number u costs e is μ v x w y now (Skip n) at item (by_skip n) item.emitted (step u v x) refl
  each μ v x w y now (Again n) at item = steered s number u costs e is μ v x w y now (Again n) at item (by_return n) item.emitted (step u v x) refl
  each μ v x w y now (Jump label) at item = steered s number u costs e is μ v x w y now (Jump label) at item (by_jump label) item.emitted (step u v x) refl
  each μ v x w y now (Select p count) at item = steered s number u costs e is μ v x w y now (Select p count) at item (by_select p count) item.emitted (step u v x) refl
  each μ v x w y now (JumpBy p labels) at item = steered s number u costs e is μ v x w y now (JumpBy p labels) at item (by_held p labels) item.emitted (step u v x) refl
  each μ v x w y now (Branch k count) at item = steered s number u costs e is μ v x w y now (Branch k count) at item (by_branch k count) item.emitted (step u v x) refl
  each μ v x w y now (Way label) at item = steered s number u costs e is μ v x w y now (Way label) at item (by_way label) item.emitted (step u v x) refl
  each μ v x w y now Pass at item = steered s number u costs e is μ v x w y now Pass at item by_pass item.emitted (step u v x) refl
  each μ v x w y now (Keep k p) at item =
      keeps s number u costs e is μ v x w y now (Keep k p) at item k p refl (numeric_by (e.writing.is_number k) _ _ item.item item.emitted) item.emitted
  each μ v x w y now Back at item = answers s number u costs e is μ v x w y now Back at item refl
  each μ v x w y now (BackBy p) at item = answers_by s number u costs e is μ v x w y now (BackBy p) at item p refl
  each μ v x w y now (CallFor k callee ps) at item = calls_function s number u costs e is μ v x w y now (CallFor k callee ps) at item k callee ps refl
  each μ v x w y now (CallSub k name ps) at item = calls_subroutine s number u costs e is μ v x w y now (CallSub k name ps) at item k name ps refl
  each μ v x w y now (PutText place ps) at item = none_emitted item.item item.emitted
  each μ v x w y now (Compute k f ps) at item =
      computes s number u costs e is μ v x w y now (Compute k f ps) at item k f ps refl (computed_number e.writing (e.writing.is_number k) _ _ _ item.item item.emitted) item.emitted
  each μ v x w y now (Halt text) at item = halted s number u costs e is μ v x w y now (Halt text) at item text refl (sym (some_same _ item.item item.emitted))
  each μ v x w y now (Acts act ps n) at item = acted s number u costs e is μ v x w y now (Acts act ps n) at item act ps n refl item.emitted

  follows : (μ : CallWorld) (v : View) (x : fortran.World) (w : c_steps.View) (y : c.World) → IsAtStep s number e μ v x w y → (found : Option Step) → slice_get u.steps v.at ≡ found
      → Meets (call_couple s number u costs e) μ w y (cost costs v.at) (step u v x)
  unfolding step done
  follows μ v x w y now None at = subst (λ o. Meets (call_couple s number u costs e) μ w y (cost costs v.at) (done u v x o)) (sym at) (λ claimed. absurd claimed)
  follows μ v x w y now (Some st) at = each μ v x w y now st at (is.items v.at st at)

  module _ (later : List ℕ) (costed : IsCosted u costs later is.entry is.savings) where
    pub simulates : Local (entered_couple s number u costs later e)
    unfolding lower.start
    simulates = record {
      starts = λ μ x n a y n' values houses idle calls. opened s number u costs e is later costed μ x n a y n' values houses idle calls (association.start u.facts n a x) refl;
      refuses = λ n a x act h claimed. claimed;
      follows = follows_late (call_couple s number u costs e) (IsEarly s number e) (λ v. cost later v.at) (λ v. costed.more v.at) (λ μ v x w y matched. follows μ v x w y matched (slice_get u.steps v.at) refl);
    }

pub units_are_simulated : UnitsAreSimulated
units_are_simulated s number u costs later e is costed = simulates s number u costs e is later costed
