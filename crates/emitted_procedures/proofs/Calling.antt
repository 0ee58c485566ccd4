-- What a procedure does to call another one, and how it goes on with each answer.
use Rattle.std.specs.Prelude.{◌≡◌, ℕ, suc, ◌+◌, ◌-◌, ◌≤◌, nat_eq, nat_lt, ℤ, Bool, true, false, List, [], ◌++◌, length, take, Option, Some, None, option_map, Ok, slice_get, slice_set, if◌then◌else◌}
use Rattle.std.proofs.Common.{refl, sym, ap, ◌∙◌, subst}
use Rattle.std.proofs.lemmas.List.{length-set, append-nil}
use Rattle.procedure_emission.specs.simulation.Machine.{Calls, Breaks, Enters}
use Rattle.procedure_emission.specs.simulation.LocalSimulation.{last, Meets, Resumed}
use Rattle.procedure_emission.specs.f_tree.declared.names.Basic.{Basic}
use Rattle.procedure_emission.specs.f_tree.declared.names.Basic.TheVariants as basic
use Rattle.procedure_emission.specs.f_tree.declared.names.Class.{Class}
use Rattle.procedure_emission.specs.f_tree.declared.names.Class.TheVariants as class
use Rattle.procedure_emission.specs.f_tree.Values.{Bytes, Datum, IsInt, IsLog, IsProc, Nothing, Act, NoMeaning, Checked, Gives, Fails, in_range}
use Rattle.procedure_emission.specs.f_tree.Terms.{Wanted, AsSubroutine, AsFunction, Callee}
use Rattle.procedure_emission.specs.f_tree.Store.{Store, Whole, Number as ANumber, Truth}
use Rattle.procedure_emission.specs.f_tree.Facts.{Attribute, Facts, Frame}
use Rattle.procedure_emission.specs.f_tree.Setting.{IsIn, first_in}
use Rattle.procedure_emission.specs.f_tree.World as fortran
use Rattle.procedure_emission.specs.f_tree.World.{Called, Procedure, Returning}
use Rattle.procedure_emission.specs.f_tree.Association.{Passing, passing, ready_for, passed_procedure, procedure_named, called_as, call, cut_to}
use Rattle.procedure_emission.specs.l_core.Pures.{Pures, Temporaries, with_kept, all_meant}
use Rattle.procedure_emission.specs.l_core.Steps.{Step, CallFor, CallSub, Text}
use Rattle.procedure_emission.specs.l_core.Machine.{View, Doing, lowered_sorts, resting, waiting, calling, done, step, gone_on, resumed_at}
use Rattle.procedure_emission.specs.l_core.Machine as lower
use Rattle.procedure_emission.specs.l_core.Costs.{cost}
use Rattle.procedure_emission.specs.c_tree.declared.outcome.CValue.{CValue}
use Rattle.procedure_emission.specs.c_tree.declared.outcome.CValue.TheVariants.{Pointer, Function}
use Rattle.procedure_emission.specs.c_tree.Faults.{after}
use Rattle.procedure_emission.specs.c_tree.Access.{ToNumber, ToFunction}
use Rattle.procedure_emission.specs.c_tree.Objects as objects_of
use Rattle.procedure_emission.specs.c_tree.Objects.{Object, Place, stored}
use Rattle.procedure_emission.specs.c_tree.Terms as c_term
use Rattle.procedure_emission.specs.c_tree.Terms.{Term}
use Rattle.procedure_emission.specs.c_tree.Values as c_values
use Rattle.procedure_emission.specs.c_tree.Values.{values_of}
use Rattle.procedure_emission.specs.c_tree.Flat as flat
use Rattle.procedure_emission.specs.c_tree.Flat.{Flat, Use, Ignored, Kept, Invoke}
use Rattle.procedure_emission.specs.c_tree.World as c
use Rattle.procedure_emission.specs.c_tree.Linking as linking
use Rattle.procedure_emission.specs.c_tree.Builtins.{signatures}
use Rattle.procedure_emission.specs.c_tree.Steps as c_steps
use Rattle.procedure_emission.specs.c_tree.Steps.{Wants, WantsNothing, WantsValue, wanted, callee_of, called, library_called, given_that, deed, taken, past, entering}
use Rattle.procedure_emission.proofs.c_laws.StepLaws.{step_at}
use Rattle.procedure_emission.specs.faithful.StorageImage.{number_for}
use Rattle.procedure_emission.specs.c_image.World.{World, changed, with_held}
use Rattle.procedure_emission.specs.c_image.Standing.{Stands}
use Rattle.procedure_emission.specs.c_image.Addresses.{Address, Alone, Inside, InTexts, Through}
use Rattle.procedure_emission.specs.c_image.Held.{whole_for, BeginWith, Holds}
use Rattle.procedure_emission.specs.c_image.Knowing.{Knows, IsApart}
use Rattle.procedure_emission.specs.c_image.Passing.{Argument, with_arguments}
use Rattle.procedure_emission.proofs.c_image_laws.CallsStand.{passed_stands, extends_passed}
use Rattle.procedure_emission.proofs.c_image_laws.Growing.{cut_stands, extends_itself, extends_through}
use Rattle.procedure_emission.proofs.c_image_laws.IdleFrames.{idle_beside_object}
use Rattle.procedure_emission.proofs.c_image_laws.Keeping as keeping_laws
use Rattle.procedure_emission.proofs.c_image_laws.Knowledge.{knows_kept}
use Rattle.procedure_emission.specs.c_emit.Numbers.{Writing, if_number}
use Rattle.procedure_emission.specs.c_emit.Types.{HasType}
use Rattle.procedure_emission.specs.c_emit_laws.EmittedNumbers.{IsKnown}
use Rattle.procedure_emission.proofs.c_emit_laws.Choices.{mapped_by, some_same}
use Rattle.procedure_emission.specs.emitted_texts.SecondLayer.{Surroundings, Emission, TransfersStand}
use Rattle.procedure_emission.specs.emitted_texts.Emitted.{leads, stage_behind}
use Rattle.procedure_emission.proofs.emitted_texts.Worlds.{extends_changed}
use Rattle.procedure_emission.specs.ProcedureItems.{argument_terms, callee_for, function_called, call_item, basic_wanted, kept_item, call_for_item, procedure_item}
use Rattle.procedure_emission.specs.Reading.{IsPlain, plain_number, plain_truth, plain_nothing, kind_after, number_kept, numbers_kept}
use Rattle.procedure_emission.specs.CallLayer.{CallWorld, function_object, ResultIsPassed, IsAnswer, AnswersAlike, IsActive, IsStaged, IsAtStep, call_couple}
use Rattle.procedure_emission.specs.EmittedUnits.{leads_on, IsItem, IsEmittedUnit}
use Rattle.emitted_procedures.proofs.KeptNumbers.{whole_number, numbers_behind, numbers_left}
use Rattle.emitted_procedures.proofs.Transfers.{transfers_stand_later}
use Rattle.emitted_procedures.proofs.Passing.{data_of, all_held, all_passed, no_lengths, others_free}
use Rattle.emitted_procedures.proofs.Arguments.{AreValued, function_value, arguments_valued}
use Rattle.emitted_procedures.proofs.Steering.{made_far, not_held_yet, kept_there, typed_behind, plain_behind, procedures_kept}

procedures_same : (x y : Bytes) → IsProc x ≡ IsProc y → x ≡ y
procedures_same x y h = cc

-- ## The call in FORTRAN

-- a subroutine, or a function of numbers
abbrev pub IsPlainWant : Wanted → Type 0
IsPlainWant AsSubroutine = Unit {0}
IsPlainWant (AsFunction basic.Integer width) = Unit {0}
IsPlainWant (AsFunction basic.Logical width) = Unit {0}
IsPlainWant want = ⊥

ready_plain : (want : Wanted) (p : Passing) (x : fortran.World) (v : fortran.View) (name : Called) → IsPlainWant want
    → ready_for want p x v name ≡ Calls v (record x { store = p.store }) name (record { want = want; actuals = p.actuals; result = None })
unfolding ready_for
ready_plain AsSubroutine p x v name plain = refl
ready_plain (AsFunction basic.Integer width) p x v name plain = refl
ready_plain (AsFunction basic.Logical width) p x v name plain = refl
ready_plain (AsFunction basic.Character width) p x v name plain = absurd plain
ready_plain (AsFunction basic.Untyped width) p x v name plain = absurd plain

nothing_passed : (μ : World) (want : Wanted) → IsPlainWant want → ResultIsPassed μ want None []
nothing_passed μ AsSubroutine plain = (refl, refl)
nothing_passed μ (AsFunction basic.Integer width) plain = (refl, refl)
nothing_passed μ (AsFunction basic.Logical width) plain = (refl, refl)
nothing_passed μ (AsFunction basic.Character width) plain = absurd plain
nothing_passed μ (AsFunction basic.Untyped width) plain = absurd plain

plain_by : (want : Wanted) (b : Basic) → basic_wanted want ≡ Some b → IsPlainWant want
unfolding basic_wanted
plain_by (AsFunction basic.Integer width) b h = tt
plain_by (AsFunction basic.Logical width) b h = tt
plain_by (AsFunction basic.Character width) b h = absurd (cc)
plain_by (AsFunction basic.Untyped width) b h = absurd (cc)
plain_by AsSubroutine b h = tt

-- the procedure of a name of a class
procedure_by : (f : Frame) (x : Bytes) (a : Attribute) (k : Class) → a.class ≡ k → procedure_named f x a ≡ (elim k [
  | class.DummyProcedure ↦ passed_procedure (f.bound x)
  | class.Procedure ↦ Gives x
  | class.Result ↦ Gives x
  | class.Unit ↦ Gives x
  | _ ↦ Fails NoMeaning
])
unfolding procedure_named
procedure_by f x a k is = ap (λ c. elim c [
  | class.DummyProcedure ↦ passed_procedure (f.bound x)
  | class.Procedure ↦ Gives x
  | class.Result ↦ Gives x
  | class.Unit ↦ Gives x
  | _ ↦ Fails NoMeaning
]) is

-- what a call names, in both
pub record IsCallee (numbers : Called → Option ℕ) (facts : Facts) (f : Frame) (objects : List Object) (x : Bytes) (target : flat.Callee) : Type 0 where
  pub name : Bytes
  pub function : ℕ
  pub named : procedure_named f x (facts.program.attribute x) ≡ Gives name
  pub known : numbers (Procedure name) ≡ Some function
  pub valued : callee_of objects target ≡ Ok (Function function)

calls_event : (u : Text) (v : View) (x : fortran.World) (callee : Callee) (name : Bytes) (ds : List Datum) → IsPlainWant callee.want → procedure_named v.frame callee.name (u.facts.program.attribute callee.name) ≡ Gives name
    → calling u v x callee (Gives ds)
    ≡ Calls (record v { height = length x.store }) (record x { store = (passing x.store ds).store }) (Procedure name) (record { want = callee.want; actuals = (passing x.store ds).actuals; result = None })
unfolding calling waiting call called_as resting
calls_event u v x callee name ds plain named =
    ap (λ r. waiting (record v { height = length x.store }) (called_as r callee.want (passing x.store ds) x (record { frame = v.frame; at = 0; now = Returning (length x.store); loops = [] })))
    named
    ∙ ap (waiting (record v { height = length x.store })) (ready_plain callee.want (passing x.store ds) x (record { frame = v.frame; at = 0; now = Returning (length x.store); loops = [] }) (Procedure name) plain)

calls_nothing : (u : Text) (v : View) (x : fortran.World) (callee : Callee) (act : Act) (ds : List Datum) → procedure_named v.frame callee.name (u.facts.program.attribute callee.name) ≡ Fails act → calling u v x callee (Gives ds) ≡ Breaks act
unfolding calling waiting call called_as resting
calls_nothing u v x callee act ds named =
    ap (λ r. waiting (record v { height = length x.store }) (called_as r callee.want (passing x.store ds) x (record { frame = v.frame; at = 0; now = Returning (length x.store); loops = [] }))) named

-- ## The call in C

call_goes : (function : linking.Function) (view : c_steps.View) (world : c.World) (how : Use) (target : flat.Callee) (number : ℕ) (arguments : List Term) (values : List CValue) (wants : Wants) → wanted world.objects how ≡ Ok wants
    → callee_of world.objects target ≡ Ok (Function number) → values_of world.objects arguments ≡ Ok values → nat_lt number function.own ≡ true → deed function view world (Invoke how target arguments) ≡ Calls (record view { wants = wants }) world number values
unfolding deed
call_goes function view world how target number arguments values wants settled found valued own =
    ap (λ found. given_that found λ wants. given_that (callee_of world.objects target) λ callee. given_that (values_of world.objects arguments) λ values. called function.own view world wants callee values) settled
    ∙ ap (λ found. given_that found λ callee. given_that (values_of world.objects arguments) λ values. called function.own view world wants callee values) found
    ∙ ap (λ found. given_that found λ values. called function.own view world wants (Function number) values) valued
    ∙ ap (λ mine. if mine then Calls (record view { wants = wants }) world number values else library_called view world wants values (slice_get signatures (number - function.own))) own

variable_wanted : (objects : List Object) (k : ℕ) → wanted objects (Kept (c_term.Variable k ToNumber)) ≡ Ok (WantsValue (record { at = Pointer k 0; access = ToNumber }))
unfolding c_values.seen
variable_wanted objects k = refl

-- ## Answers

-- a number or a truth value of the type that was wanted; a subroutine answers a number
record IsNumberAnswer (want : Wanted) (d : Datum) (answer : Option ℤ) : Type 0 where
  whole : Whole
  is : whole_for d ≡ Some whole
  fits : in_range (number_for whole) ≡ true
  answers : answer ≡ Some (number_for whole)
  typed : (b : Basic) → basic_wanted want ≡ Some b → HasType b d

truth_fits : (b : Bool) → in_range (number_for (Truth b)) ≡ true
unfolding in_range
truth_fits true = refl
truth_fits false = refl

plain_whole : (d : Datum) (whole : Whole) → whole_for d ≡ Some whole → IsPlain d
plain_whole (IsInt z) whole is = plain_number z
plain_whole (IsLog b) whole is = plain_truth b
plain_whole _ whole is = absurd (cc)

number_answer : (ν : CallWorld) (want : Wanted) (b : Basic) (store : Store) (d : Datum) (answer : Option ℤ) → basic_wanted want ≡ Some b → IsAnswer ν want store d answer → IsNumberAnswer want d answer
unfolding basic_wanted
number_answer ν (AsFunction basic.Integer width) b store d answer h is = record {
  whole = ANumber is.0;
  is = ap whole_for is.1;
  fits = is.2;
  answers = is.3;
  typed = λ t same. subst (λ k. HasType k d) (some_same basic.Integer t same) (subst (HasType basic.Integer) (sym is.1) tt);
}
number_answer ν (AsFunction basic.Logical width) b store d answer h is = record {
  whole = Truth is.0;
  is = ap whole_for is.1;
  fits = truth_fits is.0;
  answers = is.2;
  typed = λ t same. subst (λ k. HasType k d) (some_same basic.Logical t same) (subst (HasType basic.Logical) (sym is.1) tt);
}
number_answer ν (AsFunction basic.Character width) b store d answer h is = absurd (cc)
number_answer ν (AsFunction basic.Untyped width) b store d answer h is = absurd (cc)
number_answer ν AsSubroutine b store d answer h is = record {
  whole = ANumber is.0;
  is = ap whole_for is.1;
  fits = is.2;
  answers = is.3;
  typed = λ t same. subst (λ k. HasType k d) (some_same basic.Integer t same) (subst (HasType basic.Integer) (sym is.1) tt);
}

-- ## What is known behind a call

-- of fewer temporaries
known_fewer : (ν : World) (w : Writing) (frame : Frame) (m n : Temporaries) → ((k : ℕ) (d : Datum) → n k ≡ Some d → m k ≡ Some d) → IsKnown ν w frame m → IsKnown ν w frame n
known_fewer ν w frame m n fewer known = record {
  knows = record {
    sound = known.knows.sound;
    reaches = known.knows.reaches;
    lengths = known.knows.lengths;
    lowers = known.knows.lowers;
    sizes = known.knows.sizes;
    kept = λ k d h. known.knows.kept k d (fewer k d h);
  };
  spots = known.spots;
  types = known.types;
  numbers = λ k d h. known.numbers k d (fewer k d h);
  bounds = known.bounds;
  closed = known.closed;
}

same_kept : (k : ℕ) (d : Datum) (kept : Temporaries) → changed kept k (Some d) ≡ with_kept k d kept
unfolding with_kept
same_kept k d kept = refl

numbers_with : (kept : Temporaries) (is_number : ℕ → Bool) (k : ℕ) (d : Datum) (value : Whole) → whole_for d ≡ Some value
    → ((j : ℕ) (e : Datum) → kept j ≡ Some e → is_number j ≡ true → (found : Whole) × (whole_for e ≡ Some found))
    → (j : ℕ) (e : Datum) → with_kept k d kept j ≡ Some e → is_number j ≡ true → (found : Whole) × (whole_for e ≡ Some found)
unfolding with_kept
numbers_with kept is_number k d value is numbers j e has holds = by (nat_eq j k) has
  where
    by : (test : Bool) → (if test then Some d else kept j) ≡ Some e → (found : Whole) × (whole_for e ≡ Some found)
    by true h = subst (λ y. (found : Whole) × (whole_for y ≡ Some found)) (some_same d e h) (value, is)
    by false h = numbers j e h holds

-- and of one that keeps a number now
known_with : (μ : World) (w : Writing) (frame : Frame) (kept : Temporaries) (k : ℕ) (d : Datum) (value : Whole) (bytes : List (Option ℕ)) → IsKnown μ w frame kept → IsApart w.naming k → BeginWith d bytes → whole_for d ≡ Some value
    → IsKnown (with_held μ (w.naming.temporary k) (Some (objects_of.Bytes bytes))) w frame (with_kept k d kept)
known_with μ w frame kept k d value bytes known apart begins is = record {
  knows = subst (Knows (with_held μ (w.naming.temporary k) (Some (objects_of.Bytes bytes))) w.naming w.facts frame) (same_kept k d kept) (knows_kept μ w.naming w.facts frame kept k d bytes apart begins known.knows);
  spots = known.spots;
  types = known.types;
  numbers = numbers_with kept w.is_number k d value is known.numbers;
  bounds = known.bounds;
  closed = known.closed;
}

-- the transfer is as it was at the call
staged_after : (μ : CallWorld) (x x' : fortran.World) (y y' : c.World) (stage : Option ℤ) → x'.transfer ≡ x.transfer → y'.transfer ≡ y.transfer → x'.units ≡ y'.units → IsStaged μ x y stage → IsStaged μ x' y' stage
staged_after μ x x' y y' None one other units staged = (one ∙ staged.0, other ∙ staged.1)
staged_after μ x x' y y' (Some unit) one other units staged = (
  record { zeros = staged.0.zeros; values = staged.0.values; written = staged.0.written; on = record { one = one ∙ staged.0.on.one; other = other ∙ staged.0.on.other; units = units } },
  staged.1,
  staged.2,
)

-- the world in which another procedure is called
abbrev pub called_world : World → List Argument → Wanted → fortran.World → c.World → CallWorld
called_world now arguments want x y = record { image = with_arguments now arguments; wanted = want; result = None; transfer = x.transfer; other = y.transfer }

module _ (s : Surroundings) (number : ℕ) (u : Text) (costs : List ℕ) (e : Emission) (is : IsEmittedUnit s number u costs e) (μ : CallWorld) (v : View) (x : fortran.World) (w : c_steps.View) (y : c.World) (now : IsAtStep s number e μ v x w y)
    (st : Step) (at : slice_get u.steps v.at ≡ Some st) (item : IsItem s u e v.at st) where
  pub active : IsActive s number e μ v x y
  active = now.active

  here : slice_get e.function.code w.position ≡ Some item.item
  here = ap (slice_get e.function.code) now.position ∙ item.stands

  done_is : (ev : Doing) → step u v x ≡ ev → done u v x (Some st) ≡ ev
  unfolding step
  done_is ev h = sym (ap (done u v x) at) ∙ h

  -- what is held from the first step on is held now
  constants : (z : ℤ) → e.writing.library.has z ≡ true → Holds (active.now.frozen (e.writing.library.constant z)) (IsInt z)
  constants z has =
      let held = is.fit.constants z has in
      record { bytes = held.bytes; is = active.both.extends.frozen (e.writing.library.constant z) (objects_of.Bytes held.bytes) (active.housed.frozen (e.writing.library.constant z) (objects_of.Bytes held.bytes) held.is); begins = held.begins }

  -- the arguments
  valued : (ps : Pures) (ds : List Datum) (terms : List Term) → all_meant u.facts v.frame v.kept x.store ps ≡ Gives ds → argument_terms s.numbers e.writing ps ≡ Some terms → AreValued s number active.now y.objects terms ds
  valued ps ds terms gives emitted =
      arguments_valued s number active.now x.store y.objects e.writing v.frame v.kept now.plain active.both.stands active.known constants (λ z has j apart low high. is.apart_rooms.constants j z apart has (low, high))
      (λ k numeric. made_far s number u costs e is (e.writing.naming.temporary k) (is.temporaries k numeric)) active.procedures ps ds terms
      (ap (λ f. all_meant f v.frame v.kept x.store ps) is.facts ∙ gives) emitted

  -- the function that is called
  directly : (x : Bytes) (k : Class) (target : flat.Callee) → (u.facts.program.attribute x).class ≡ k → procedure_named v.frame x (u.facts.program.attribute x) ≡ Gives x → option_map flat.Direct (s.numbers (Procedure x)) ≡ Some target
      → IsCallee s.numbers u.facts v.frame y.objects x target
  directly x k target is named h =
      let m = mapped_by flat.Direct (s.numbers (Procedure x)) target h in
      record { name = x; function = m.one; named = named; known = m.one_is; valued = ap (callee_of y.objects) (sym m.is) }

  class_is : (x : Bytes) → (e.writing.facts.program.attribute x).class ≡ (u.facts.program.attribute x).class
  class_is x = ap (λ (f : Facts). (f.program.attribute x).class) is.facts

  bound_found : (r : Option Datum) (name : Bytes) → passed_procedure r ≡ Gives name → r ≡ Some (IsProc name)
  unfolding passed_procedure
  bound_found (Some (IsProc z)) name h = let same : z ≡ name = (let g = h in cc) in ap (λ n. Some (IsProc n)) same
  bound_found None name h = absurd (cc)
  bound_found (Some _) name h = absurd (cc)

  -- given the procedure that the name stands for
  callee_by : (x : Bytes) (k : Class) (address : Address) (target : flat.Callee) (name : Bytes) → (u.facts.program.attribute x).class ≡ k → e.writing.naming.address x ≡ address → callee_for s.numbers x k address ≡ Some target
      → procedure_named v.frame x (u.facts.program.attribute x) ≡ Gives name → IsCallee s.numbers u.facts v.frame y.objects x target
  unfolding callee_for
  callee_by x class.Procedure address target name is at h named = directly x class.Procedure target is (procedure_by v.frame x (u.facts.program.attribute x) class.Procedure is) h
  callee_by x class.Result address target name is at h named = directly x class.Result target is (procedure_by v.frame x (u.facts.program.attribute x) class.Result is) h
  callee_by x class.Unit address target name is at h named = directly x class.Unit target is (procedure_by v.frame x (u.facts.program.attribute x) class.Unit is) h
  callee_by x class.DummyProcedure (Through parameter) target name is at h named =
      let bound = bound_found (v.frame.bound x) name (sym (procedure_by v.frame x (u.facts.program.attribute x) class.DummyProcedure is) ∙ named) in
      let held = active.procedures x (IsProc name) parameter (class_is x ∙ is) bound at in
      record {
        name = name;
        function = held.1;
        named = named;
        known = ap (λ z. s.numbers (Procedure z)) (procedures_same name held.0 held.2) ∙ held.3;
        valued = ap (callee_of y.objects) (sym (some_same (flat.Through (c_term.Variable parameter ToFunction)) target h)) ∙ function_value y.objects parameter held.1 (active.both.stands.held parameter (function_object held.1) held.4);
      }
  callee_by x class.DummyProcedure (Alone object) target name is at h named = absurd (cc)
  callee_by x class.DummyProcedure (Inside object before) target name is at h named = absurd (cc)
  callee_by x class.DummyProcedure (InTexts object before) target name is at h named = absurd (cc)
  callee_by x _ address target name is at h named = absurd (cc)

  called_by : (x : Bytes) (target : flat.Callee) (name : Bytes) → function_called s.numbers e.writing x ≡ Some target → procedure_named v.frame x (u.facts.program.attribute x) ≡ Gives name → IsCallee s.numbers u.facts v.frame y.objects x target
  unfolding function_called
  called_by x target name h named =
      callee_by x (u.facts.program.attribute x).class (e.writing.naming.address x) target name refl refl (ap (λ k. callee_for s.numbers x k (e.writing.naming.address x)) (sym (class_is x)) ∙ h) named

  module _ (callee : Callee) (target : flat.Callee) (terms : List Term) (how : Use) (wants : Wants) (ds : List Datum) (plain : IsPlainWant callee.want) (is_called : IsCallee s.numbers u.facts v.frame y.objects callee.name target) (are : AreValued s number active.now y.objects terms ds)
      (item_is : Invoke how target terms ≡ item.item) (settled : wanted y.objects how ≡ Ok wants) where
    -- the call is met where each answer is
    pub call_met : ((x' : fortran.World) (d : Datum) (y' : c.World) (answer : Option ℤ) → AnswersAlike s (called_world active.now are.arguments callee.want x y) x' d y' answer
        → Resumed (call_couple s number u costs e) μ (lower.resume u (record v { height = length x.store }) d x') (record w { wants = wants }) answer y')
        → Meets (call_couple s number u costs e) μ w y (cost costs v.at) (calling u v x callee (Gives ds))
    call_met resumes =
        let grown = extends_passed active.now are.arguments in
        let high : length x.store ≡ active.now.height = active.both.stands.as_high in
        subst (Meets (call_couple s number u costs e) μ w y (cost costs v.at))
        (sym (ap (λ all. calling u v x callee (Gives all)) (sym are.data_are) ∙ calls_event u v x callee is_called.name (data_of are.arguments) plain is_called.named))
        (record {
          count = 1;
          view = record w { wants = wants };
          shared = y;
          name = is_called.function;
          arg = are.values;
          does = last (step_at e.function w y item.item here
              ∙ subst (λ i. deed e.function w y i ≡ Calls (record w { wants = wants }) y is_called.function are.values) item_is
              (call_goes e.function w y how target is_called.function terms are.values wants settled is_called.valued are.valued (is.calls (Procedure is_called.name) is_called.function is_called.known))) refl;
          few = is.positive v.at st at;
          world = called_world active.now are.arguments callee.want x y;
          grows = record {
            extends = extends_through μ.image active.now (with_arguments active.now are.arguments) active.both.extends grown;
            others = λ j apart free. others_free s number active.now are.arguments are.values j apart are.given (active.others j apart free);
          };
          passed = record {
            both = record {
              extends = extends_itself (with_arguments active.now are.arguments);
              stands = passed_stands active.now x.store y.objects are.arguments active.both.stands (all_held s number active.now are.arguments are.values are.given);
              units = active.both.units;
              transfers = transfers_stand_later μ.image (with_arguments active.now are.arguments) x.transfer y.transfer (extends_through μ.image active.now (with_arguments active.now are.arguments) active.both.extends grown) active.both.transfers;
              as_many = active.both.as_many;
            };
            want = refl;
            place = refl;
            found = (refl, refl);
            named = is_called.known;
            result = [];
            arguments = are.values;
            result_passed = nothing_passed (with_arguments active.now are.arguments) callee.want plain;
            are_passed = all_passed s number active.now x.store are.arguments are.values high are.given;
            values_are = sym (append-nil are.values) ∙ ap (λ more. are.values ++ more) (sym (no_lengths s number active.now x.store are.arguments are.values are.given));
          };
          waits = record { now = active.now; grown = active.both.extends; grows = grown; frame = active.frame; known = active.known; procedures = active.procedures };
          resumes = resumes;
        })

    module _ (x' : fortran.World) (d : Datum) (y' : c.World) (answer : Option ℤ) (given : AnswersAlike s (called_world active.now are.arguments callee.want x y) x' d y' answer) where
      -- the store that was there stands again
      pub stands_again : Stands active.now (take (length x.store) x'.store) y'.objects
      stands_again =
          let grown = extends_passed active.now are.arguments in
          subst (λ n. Stands active.now (take n x'.store) y'.objects) (sym active.both.stands.as_high)
          (cut_stands active.now given.now x'.store y'.objects (extends_through active.now (with_arguments active.now are.arguments) given.now grown given.both.extends) given.both.stands)

      pub transfers_again : TransfersStand μ.image x'.transfer y'.transfer
      transfers_again = subst (λ t. TransfersStand μ.image t y'.transfer) (sym given.found.0) (subst (λ t. TransfersStand μ.image x.transfer t) (sym given.found.1) active.both.transfers)

  -- ## A subroutine

  behind : w.position + 1 ≡ e.place (suc v.at)
  behind = ap (λ n. n + 1) now.position ∙ sym (is.in_order v.at st at)

  same_stage : IsIn (suc v.at) (leads_on u v.at st) → stage_behind (e.stage v.at) st ≡ e.stage v.at → e.stage (suc v.at) ≡ e.stage v.at
  same_stage led same = is.fit.stages v.at st (suc v.at) at led ∙ same

  resumed_subroutine : (k : ℕ) (name : Bytes) (ps : Pures) → st ≡ CallSub k name ps → (arguments : List Argument) → (x' : fortran.World) (d : Datum) (y' : c.World) (answer : Option ℤ)
      → AnswersAlike s (called_world active.now arguments AsSubroutine x y) x' d y' answer → Stands active.now (take (length x.store) x'.store) y'.objects → TransfersStand μ.image x'.transfer y'.transfer
      → Resumed (call_couple s number u costs e) μ (lower.resume u (record v { height = length x.store }) d x') (record w { wants = WantsNothing }) answer y'
  unfolding lower.resume resumed_at gone_on cut_to c_steps.resume leads leads_on stage_behind kind_after number_kept with_kept
  resumed_subroutine k name ps form arguments x' d y' answer given stands transfers =
      let found : slice_get u.steps v.at ≡ Some (CallSub k name ps) = at ∙ ap Some form in
      let led : IsIn (suc v.at) (leads_on u v.at st) = subst (λ o. IsIn (suc v.at) (leads_on u v.at o)) (sym form) first_in in
      let stage = same_stage led (ap (stage_behind (e.stage v.at)) form) in
      let later : View = record v { height = length x.store; at = suc v.at; kept = with_kept k Nothing v.kept } in
      let x'' : fortran.World = record x' { store = take (length x.store) x'.store } in
      subst (λ entry. Resumed (call_couple s number u costs e) μ entry (record w { wants = WantsNothing }) answer y') (sym (ap (λ o. resumed_at o (record v { height = length x.store }) d x') found)) (
        past (record w { wants = WantsNothing }),
        y',
        refl,
        record {
          position = behind;
          plain = λ j value holds. plain_behind s number u costs e is μ v x w y now st at item (nat_eq j k) j Nothing value plain_nothing holds;
          typed = λ j value basic holds kind. typed_behind s number u costs e is μ v x w y now st at item (nat_eq j k) j k None Nothing value basic holds
              (ap (λ o. kind_after e.writing v.at o j) (sym form) ∙ is.fit.kinds v.at st (suc v.at) at led j basic kind) (λ none. no_kind basic none);
          staged = subst (IsStaged μ x'' y') (sym stage) (staged_after μ x x'' y y' (e.stage v.at) given.found.0 given.found.1 given.both.units now.staged);
          active = record {
            now = active.now;
            housed = active.housed;
            both = record { extends = active.both.extends; stands = stands; units = given.both.units; transfers = transfers; as_many = given.both.as_many };
            free = active.free;
            others = active.others;
            frame = active.frame;
            known = known_fewer active.now e.writing v.frame (numbers_kept v.kept) (numbers_kept (with_kept k Nothing v.kept)) (numbers_left k Nothing v.kept refl) active.known;
            temporaries = active.temporaries;
            procedures = active.procedures;
          };
        },
      )
    where
      no_kind : {A : Type 0} (basic : Basic) → None ≡ Some basic → A
      no_kind basic h = absurd (cc)

  -- ## A function, and a subroutine whose number is kept

  resumed_function : (k : ℕ) (callee : Callee) (ps : Pures) (b : Basic) → st ≡ CallFor k callee ps → basic_wanted callee.want ≡ Some b → e.writing.is_number k ≡ true → (arguments : List Argument) → (x' : fortran.World) (d : Datum) (y' : c.World) (answer : Option ℤ)
      → AnswersAlike s (called_world active.now arguments callee.want x y) x' d y' answer → Stands active.now (take (length x.store) x'.store) y'.objects → TransfersStand μ.image x'.transfer y'.transfer
      → Resumed (call_couple s number u costs e) μ (lower.resume u (record v { height = length x.store }) d x') (record w { wants = WantsValue (record { at = Pointer (e.writing.naming.temporary k) 0; access = ToNumber }) }) answer y'
  unfolding lower.resume resumed_at gone_on cut_to c_steps.resume leads leads_on stage_behind kind_after with_kept
  resumed_function k callee ps b form wanted' numeric arguments x' d y' answer given stands transfers =
      let found : slice_get u.steps v.at ≡ Some (CallFor k callee ps) = at ∙ ap Some form in
      let value = number_answer (called_world active.now arguments callee.want x y) callee.want b x'.store d answer wanted' given.answers in
      let own = e.writing.naming.temporary k in
      let mine = active.temporaries k numeric in
      let place : Place = record { at = Pointer own 0; access = ToNumber } in
      let kept = keeping_laws.number_kept active.now (take (length x.store) x'.store) y'.objects own mine.bytes d value.whole stands mine.holds mine.room mine.homeless value.is value.fits in
      let room : 4 ≤ length kept.bytes = subst (λ n. 4 ≤ n) (sym kept.same_size) mine.room in
      let objects = slice_set y'.objects own (objects_of.Bytes kept.bytes) in
      let led : IsIn (suc v.at) (leads_on u v.at st) = subst (λ o. IsIn (suc v.at) (leads_on u v.at o)) (sym form) first_in in
      let stage = same_stage led (ap (stage_behind (e.stage v.at)) form) in
      let x'' : fortran.World = record x' { store = take (length x.store) x'.store } in
      let y'' : c.World = record y' { objects = objects } in
      let view : c_steps.View = record w { wants = WantsValue place } in
      let goes : entering (taken (WantsValue place) answer view y') ≡ Enters (past view) y'' =
      ap (λ o. entering (taken (WantsValue place) o view y')) value.answers ∙ ap (λ r. entering (after r λ objects. Ok (record { view = past view; world = record y' { objects = objects } }))) kept.stored in
      let numbers : with_kept k d (numbers_kept v.kept) ≡ numbers_kept (with_kept k d v.kept) = sym (numbers_behind k d v.kept (whole_number d value.whole value.is)) in
      subst (λ entry. Resumed (call_couple s number u costs e) μ entry view answer y') (sym (ap (λ o. resumed_at o (record v { height = length x.store }) d x') found)) (
        past view,
        y'',
        goes,
        record {
          position = behind;
          plain = λ j held holds. plain_behind s number u costs e is μ v x w y now st at item (nat_eq j k) j d held (plain_whole d value.whole value.is) holds;
          typed = λ j held basic holds kind. typed_behind s number u costs e is μ v x w y now st at item (nat_eq j k) j k (basic_wanted callee.want) d held basic holds
              (ap (λ o. kind_after e.writing v.at o j) (sym form) ∙ is.fit.kinds v.at st (suc v.at) at led j basic kind) (λ same. value.typed basic same);
          staged = subst (IsStaged μ x'' y'') (sym stage) (staged_after μ x x'' y y'' (e.stage v.at) given.found.0 given.found.1 given.both.units now.staged);
          active = record {
            now = with_held active.now own (Some (objects_of.Bytes kept.bytes));
            housed = active.housed;
            both = record {
              extends = extends_changed μ.image active.now own (Some (objects_of.Bytes kept.bytes)) active.both.extends (not_held_yet s number u costs e is μ.image active.free own (is.temporaries k numeric));
              stands = kept.stands;
              units = given.both.units;
              transfers = transfers;
              as_many = length-set y'.objects own (objects_of.Bytes kept.bytes) ∙ given.both.as_many;
            };
            free = active.free;
            others = λ j apart free. idle_beside_object active.now (s.rooms j).first (s.rooms j).count own (Some (objects_of.Bytes kept.bytes)) (active.others j apart free)
                (made_far s number u costs e is own (is.temporaries k numeric) j apart);
            frame = active.frame;
            known = subst (IsKnown (with_held active.now own (Some (objects_of.Bytes kept.bytes))) e.writing v.frame) numbers
                (known_with active.now e.writing v.frame (numbers_kept v.kept) k d value.whole kept.bytes active.known (is.apart k numeric) kept.begins value.is);
            temporaries = kept_there s number u costs e is μ v x w y now st at item active.now active.temporaries k kept.bytes room numeric;
            procedures = procedures_kept s number u costs e is μ v x w y now st at item active.now v.frame k (Some (objects_of.Bytes kept.bytes)) numeric active.procedures;
          };
        },
      )

  -- ## The steps

  record IsCall (how : Use) (target : Option flat.Callee) (terms : Option (List Term)) (i : Flat) : Type 0 where
    callee : flat.Callee
    arguments : List Term
    callee_is : target ≡ Some callee
    arguments_are : terms ≡ Some arguments
    is_item : Invoke how callee arguments ≡ i

  call_by : (how : Use) (target : Option flat.Callee) (terms : Option (List Term)) (i : Flat) → call_item how target terms ≡ Some i → IsCall how target terms i
  unfolding call_item
  call_by how (Some callee) (Some arguments) i h = record { callee = callee; arguments = arguments; callee_is = refl; arguments_are = refl; is_item = some_same (Invoke how callee arguments) i h }
  call_by how (Some callee) None i h = absurd (cc)
  call_by how None terms i h = absurd (cc)

  subroutine_called : (k : ℕ) (name : Bytes) (ps : Pures) → st ≡ CallSub k name ps → (found : Checked (List Datum)) → all_meant u.facts v.frame v.kept x.store ps ≡ found
      → Meets (call_couple s number u costs e) μ w y (cost costs v.at) (calling u v x (record { name = name; want = AsSubroutine }) found)
  unfolding calling procedure_item
  subroutine_called k name ps form (Fails act) gives = λ claimed. absurd claimed
  subroutine_called k name ps form (Gives ds) gives = by_name (procedure_named v.frame name (u.facts.program.attribute name)) refl
    where
      by_name : (found : Checked Bytes) → procedure_named v.frame name (u.facts.program.attribute name) ≡ found → Meets (call_couple s number u costs e) μ w y (cost costs v.at) (calling u v x (record { name = name; want = AsSubroutine }) (Gives ds))
      by_name (Fails act) named = subst (Meets (call_couple s number u costs e) μ w y (cost costs v.at)) (sym (calls_nothing u v x (record { name = name; want = AsSubroutine }) act ds named)) (λ claimed. absurd claimed)
      by_name (Gives procedure) named =
          let callee : Callee = record { name = name; want = AsSubroutine } in
          let m = call_by Ignored (function_called s.numbers e.writing name) (argument_terms s.numbers e.writing ps) item.item (ap (procedure_item s.numbers e.writing e.place u.position v.at) (sym form) ∙ item.emitted) in
          let are = valued ps ds m.arguments gives m.arguments_are in
          let is_called = called_by name m.callee procedure m.callee_is named in
          call_met callee m.callee m.arguments Ignored WantsNothing ds tt is_called are m.is_item refl
          (λ x' d y' answer given. resumed_subroutine k name ps form are.arguments x' d y' answer given
          (stands_again callee m.callee m.arguments Ignored WantsNothing ds tt is_called are m.is_item refl x' d y' answer given)
          (transfers_again callee m.callee m.arguments Ignored WantsNothing ds tt is_called are m.is_item refl x' d y' answer given))

  pub calls_subroutine : (k : ℕ) (name : Bytes) (ps : Pures) → st ≡ CallSub k name ps → Meets (call_couple s number u costs e) μ w y (cost costs v.at) (step u v x)
  unfolding done
  calls_subroutine k name ps form =
      let event : step u v x ≡ calling u v x (record { name = name; want = AsSubroutine }) (all_meant u.facts v.frame v.kept x.store ps) = sym (done_is (step u v x) refl) ∙ ap (λ o. done u v x (Some o)) form in
      subst (Meets (call_couple s number u costs e) μ w y (cost costs v.at)) (sym event) (subroutine_called k name ps form (all_meant u.facts v.frame v.kept x.store ps) refl)

  record IsKeptCall (k : ℕ) (callee : Callee) (ps : Pures) (i : Flat) : Type 0 where
    type : Basic
    type_is : basic_wanted callee.want ≡ Some type
    numeric : e.writing.is_number k ≡ true
    emitted : call_item (Kept (c_term.Variable (e.writing.naming.temporary k) ToNumber)) (function_called s.numbers e.writing callee.name) (argument_terms s.numbers e.writing ps) ≡ Some i

  kept_call_by : (k : ℕ) (callee : Callee) (ps : Pures) (i : Flat) → call_for_item s.numbers e.writing k callee ps ≡ Some i → IsKeptCall k callee ps i
  unfolding call_for_item kept_item if_number
  kept_call_by k callee ps i h = by (basic_wanted callee.want) (e.writing.is_number k) refl refl h
    where
      by : (type : Option Basic) (numeric : Bool) → basic_wanted callee.want ≡ type → e.writing.is_number k ≡ numeric
          → kept_item type (if_number numeric (Some (c_term.Variable (e.writing.naming.temporary k) ToNumber))) (function_called s.numbers e.writing callee.name) (argument_terms s.numbers e.writing ps) ≡ Some i → IsKeptCall k callee ps i
      by (Some type) true type_is numeric g = record { type = type; type_is = type_is; numeric = numeric; emitted = g }
      by (Some type) false type_is numeric g = absurd (cc)
      by None numeric type_is is_number g = absurd (cc)

  function_called' : (k : ℕ) (callee : Callee) (ps : Pures) → st ≡ CallFor k callee ps → (found : Checked (List Datum)) → all_meant u.facts v.frame v.kept x.store ps ≡ found
      → Meets (call_couple s number u costs e) μ w y (cost costs v.at) (calling u v x callee found)
  unfolding calling procedure_item
  function_called' k callee ps form (Fails act) gives = λ claimed. absurd claimed
  function_called' k callee ps form (Gives ds) gives = by_name (procedure_named v.frame callee.name (u.facts.program.attribute callee.name)) refl
    where
      by_name : (found : Checked Bytes) → procedure_named v.frame callee.name (u.facts.program.attribute callee.name) ≡ found → Meets (call_couple s number u costs e) μ w y (cost costs v.at) (calling u v x callee (Gives ds))
      by_name (Fails act) named = subst (Meets (call_couple s number u costs e) μ w y (cost costs v.at)) (sym (calls_nothing u v x callee act ds named)) (λ claimed. absurd claimed)
      by_name (Gives procedure) named =
          let kept = kept_call_by k callee ps item.item (ap (procedure_item s.numbers e.writing e.place u.position v.at) (sym form) ∙ item.emitted) in
          let target : Use = Kept (c_term.Variable (e.writing.naming.temporary k) ToNumber) in
          let wants : Wants = WantsValue (record { at = Pointer (e.writing.naming.temporary k) 0; access = ToNumber }) in
          let m = call_by target (function_called s.numbers e.writing callee.name) (argument_terms s.numbers e.writing ps) item.item kept.emitted in
          let are = valued ps ds m.arguments gives m.arguments_are in
          let is_called = called_by callee.name m.callee procedure m.callee_is named in
          let plain = plain_by callee.want kept.type kept.type_is in
          let settled = variable_wanted y.objects (e.writing.naming.temporary k) in
          call_met callee m.callee m.arguments target wants ds plain is_called are m.is_item settled
          (λ x' d y' answer given. resumed_function k callee ps kept.type form kept.type_is kept.numeric are.arguments x' d y' answer given
          (stands_again callee m.callee m.arguments target wants ds plain is_called are m.is_item settled x' d y' answer given)
          (transfers_again callee m.callee m.arguments target wants ds plain is_called are m.is_item settled x' d y' answer given))

  pub calls_function : (k : ℕ) (callee : Callee) (ps : Pures) → st ≡ CallFor k callee ps → Meets (call_couple s number u costs e) μ w y (cost costs v.at) (step u v x)
  unfolding done
  calls_function k callee ps form =
      let event : step u v x ≡ calling u v x callee (all_meant u.facts v.frame v.kept x.store ps) = sym (done_is (step u v x) refl) ∙ ap (λ o. done u v x (Some o)) form in
      subst (Meets (call_couple s number u costs e) μ w y (cost costs v.at)) (sym event) (function_called' k callee ps form (all_meant u.facts v.frame v.kept x.store ps) refl)
