-- The function of a main program is that of a unit.
use Rattle.std.specs.Prelude.{◌≡◌, ℕ, ◌≤◌, true, List, [], length, Some, None, slice_get}
use Rattle.std.proofs.Common.{refl, sym, ap, ◌∙◌, subst, arith}
use Rattle.procedure_emission.specs.f_tree.Values.{Bytes}
use Rattle.procedure_emission.specs.f_tree.Facts.{MainProgram, FunctionUnit, BlockDataUnit, Formal, Facts}
use Rattle.procedure_emission.specs.f_tree.Setting.{IsIn}
use Rattle.procedure_emission.specs.l_core.Steps.{Step, Keep, Put, PutText, PutLabel, Compute, Unless, AgainIf, Skip, Again, Jump, Select, JumpBy, Pass, CallFor, CallSub, Branch, Way, Back, BackBy, Halt, Acts, Text}
use Rattle.procedure_emission.specs.c_tree.declared.types.ParameterType.{ParameterType}
use Rattle.procedure_emission.specs.c_tree.Flat.{Flat}
use Rattle.procedure_emission.specs.c_emit.Flats.{returned_by, flat_of}
use Rattle.procedure_emission.specs.emitted_texts.SecondLayer.{Surroundings, Emission}
use Rattle.procedure_emission.specs.emitted_texts.Emitted.{leads, kind_behind, IsEmittedMain}
use Rattle.procedure_emission.specs.ProcedureItems.{back_item, procedure_item}
use Rattle.procedure_emission.specs.Reading.{kind_after}
use Rattle.procedure_emission.specs.DummyBounds.{dummies_named, HasConstantBounds}
use Rattle.procedure_emission.specs.EmittedUnits.{IsItem, leads_on, is_return, AreParameters, no_parameters, IsEmittedUnit}
use Rattle.emitted_procedures.proofs.Keeping.{no_element}
use Rattle.emitted_procedures.specs.MainUnits.{IsFurther, MainsAreUnits}

no_item : {A : Type 0} (item : Flat) → None ≡ Some item → A
no_item item h = absurd (cc)

module _ (s : Surroundings) (number : ℕ) (u : Text) (costs : List ℕ) (e : Emission) (is : IsEmittedMain s number u costs e) (further : IsFurther s number u e) where
  kind_is : e.writing.facts.program.kind ≡ MainProgram
  kind_is = ap (λ (f : Facts). f.program.kind) is.facts ∙ is.kind

  back_same : flat_of e.writing e.place u.position 0 Back ≡ back_item e.writing e.writing.facts.program.kind
  unfolding flat_of back_item
  back_same = ap returned_by kind_is ∙ ap (back_item e.writing) (sym kind_is)

  emitted : (n : ℕ) (st : Step) (item : Flat) → flat_of e.writing e.place u.position n st ≡ Some item → procedure_item s.numbers e.writing e.place u.position n st ≡ Some item
  unfolding flat_of procedure_item
  emitted n (CallFor k callee ps) item h = no_item item h
  emitted n (CallSub k name ps) item h = no_item item h
  emitted n (BackBy p) item h = no_item item h
  emitted n Back item h = sym back_same ∙ h
  emitted n (Keep k p) item h = h
  emitted n (Put place p) item h = h
  emitted n (PutText place ps) item h = h
  emitted n (PutLabel place label) item h = h
  emitted n (Compute k function ps) item h = h
  emitted n (Unless p m) item h = h
  emitted n (AgainIf p m) item h = h
  emitted n (Skip m) item h = h
  emitted n (Again m) item h = h
  emitted n (Jump label) item h = h
  emitted n (Select p count) item h = h
  emitted n (JumpBy p labels) item h = h
  emitted n Pass item h = h
  emitted n (Branch k count) item h = h
  emitted n (Way label) item h = h
  emitted n (Halt text) item h = h
  emitted n (Acts act ps m) item h = h

  item_of : (n : ℕ) (st : Step) → slice_get u.steps n ≡ Some st → IsItem s u e n st
  item_of n st at = let one = is.items n st at in record { item = one.item; emitted = emitted n st one.item one.emitted; stands = one.stands }

  -- steps that are emitted lead where they did, and leave types as they did
  leads_same : (n : ℕ) (st : Step) (item : Flat) → flat_of e.writing e.place u.position n st ≡ Some item → leads_on u n st ≡ leads u n st
  unfolding flat_of leads_on
  leads_same n (BackBy p) item h = no_item item h
  leads_same n (CallFor k callee ps) item h = refl
  leads_same n (CallSub k name ps) item h = refl
  leads_same n Back item h = refl
  leads_same n (Keep k p) item h = refl
  leads_same n (Put place p) item h = refl
  leads_same n (PutText place ps) item h = refl
  leads_same n (PutLabel place label) item h = refl
  leads_same n (Compute k function ps) item h = refl
  leads_same n (Unless p m) item h = refl
  leads_same n (AgainIf p m) item h = refl
  leads_same n (Skip m) item h = refl
  leads_same n (Again m) item h = refl
  leads_same n (Jump label) item h = refl
  leads_same n (Select p count) item h = refl
  leads_same n (JumpBy p labels) item h = refl
  leads_same n Pass item h = refl
  leads_same n (Branch k count) item h = refl
  leads_same n (Way label) item h = refl
  leads_same n (Halt text) item h = refl
  leads_same n (Acts act ps m) item h = refl

  kinds_same : (n : ℕ) (st : Step) (k : ℕ) (item : Flat) → flat_of e.writing e.place u.position n st ≡ Some item → kind_behind e.writing n st k ≡ kind_after e.writing n st k
  unfolding flat_of kind_behind kind_after
  kinds_same n (CallFor j callee ps) k item h = no_item item h
  kinds_same n (CallSub j name ps) k item h = no_item item h
  kinds_same n (BackBy p) k item h = refl
  kinds_same n Back k item h = refl
  kinds_same n (Keep j p) k item h = refl
  kinds_same n (Put place p) k item h = refl
  kinds_same n (PutText place ps) k item h = refl
  kinds_same n (PutLabel place label) k item h = refl
  kinds_same n (Compute j function ps) k item h = refl
  kinds_same n (Unless p m) k item h = refl
  kinds_same n (AgainIf p m) k item h = refl
  kinds_same n (Skip m) k item h = refl
  kinds_same n (Again m) k item h = refl
  kinds_same n (Jump label) k item h = refl
  kinds_same n (Select p count) k item h = refl
  kinds_same n (JumpBy p labels) k item h = refl
  kinds_same n Pass k item h = refl
  kinds_same n (Branch j count) k item h = refl
  kinds_same n (Way label) k item h = refl
  kinds_same n (Halt text) k item h = refl
  kinds_same n (Acts act ps m) k item h = refl

  led : (n : ℕ) (st : Step) (m : ℕ) → slice_get u.steps n ≡ Some st → IsIn m (leads_on u n st) → IsIn m (leads u n st)
  led n st m at among = let one = is.items n st at in subst (IsIn m) (leads_same n st one.item one.emitted) among

  return_stage : (n : ℕ) (st : Step) → slice_get u.steps n ≡ Some st → is_return st ≡ true → e.stage n ≡ None
  unfolding is_return flat_of
  return_stage n Back at h = further.returns n at
  return_stage n (BackBy p) at h = let one = is.items n (BackBy p) at in no_item one.item one.emitted
  return_stage n _ at h = absurd (cc)

  no_block : MainProgram ≡ BlockDataUnit → ⊥
  no_block same = cc

  no_function : MainProgram ≡ FunctionUnit → ⊥
  no_function same = cc

  constant_bounds : (x : Bytes) → HasConstantBounds e x
  constant_bounds x = record { fits = λ k b at. is.fits x k b at; closed = λ k b at more. is.closed x k b at more; lowers = λ k b at. is.lowers x k b at; sizes = λ k b last at upper. is.sizes x k b last at upper }

  no_dummy : {A : Type 0} (x : Bytes) → IsIn x [] → A
  no_dummy x among = elim among [ ]

  pub main_is_unit : IsEmittedUnit s number u costs e
  main_is_unit = record {
    facts = is.facts;
    runs = λ same. no_block (sym is.kind ∙ same);
    items = item_of;
    in_order = is.in_order;
    positive = is.positive;
    entry = is.entry;
    only = is.only;
    room = is.room;
    inside = is.inside;
    apart_rooms = further.apart_rooms;
    parameters = subst (λ (formals : List Formal). AreParameters u e 0 formals e.function.parameters) (sym is.no_dummies) (subst (λ (types : List ParameterType). AreParameters u e 0 [] types) (sym is.parameters) (no_parameters 0));
    gives = λ other. is.result;
    result = λ function. absurd (no_function (sym is.kind ∙ function));
    temporaries = λ k numeric. (let at = is.temporaries k numeric in record { in_frame = at; behind = subst (λ (types : List ParameterType). length types ≤ at.index) (sym is.parameters) (omega arith) });
    apart = is.apart;
    fit = record {
      kinds = λ n st m at among k basic kind. (let one = is.items n st at in sym (kinds_same n st k one.item one.emitted) ∙ is.calls.kinds n st m at (led n st m at among) k basic kind);
      keeps = further.keeps;
      stages = λ n st m at among. further.stages n st m at (led n st m at among);
      outputs = is.calls.outputs;
      returns = return_stage;
      none_at_first = ap (λ n. e.stage (u.begins n)) is.at_first ∙ is.calls.none_at_first;
      own = is.calls.own;
      constants = is.calls.constants;
      lists = is.calls.lists;
      texts = is.calls.texts;
    };
    calls = further.calls;
    sound = is.sound;
    reached = is.reached;
    savings = [];
    bounds = record {
      saved = λ i one at. no_element i one at;
      alone = λ i j one other at at' same. no_element i one at;
      values = λ i one at. no_element i one at;
      others = λ x other. constant_bounds x;
      dummies = λ x among. no_dummy x (subst (λ formals. IsIn x (dummies_named formals)) is.no_dummies among);
    };
    begins = ap (λ n. e.place (u.begins n)) is.at_first ∙ is.begins;
  }

pub mains_are_units : MainsAreUnits
mains_are_units s number u costs e is further = main_is_unit s number u costs e is further
