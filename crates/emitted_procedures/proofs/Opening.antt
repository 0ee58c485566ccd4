-- How the function of a procedure begins where the procedure does.
use Rattle.std.specs.Prelude.{◌≡◌, ◌≢◌, ℕ, ◌+◌, ◌<◌, ◌≤◌, nat_eq, ℤ, true, false, List, [], ◌∷◌, ◌++◌, length, take, drop, Option, Some, None, slice_get, if◌then◌else◌}
use Rattle.std.proofs.Common.{refl, sym, ap, ◌∙◌, subst, arith}
use Rattle.std.proofs.lemmas.List.{append-nil, length-take-le, length-drop, length-append}
use Rattle.std.proofs.lemmas.Option.{slice_get_within}
use Rattle.procedure_emission.specs.simulation.Machine.{Goes, Entry, Enters, Refused}
use Rattle.procedure_emission.specs.simulation.LocalSimulation.{Does, Opened}
use Rattle.procedure_emission.specs.late_starts.LateStarts.{IsLate, ready, early}
use Rattle.procedure_emission.specs.f_tree.declared.names.Basic.{Basic}
use Rattle.procedure_emission.specs.f_tree.declared.names.Basic.TheVariants as basic
use Rattle.procedure_emission.specs.f_tree.declared.names.Class.TheVariants as class
use Rattle.procedure_emission.specs.f_tree.Values.{Bytes, Spot, Datum, IsProc, Gives}
use Rattle.procedure_emission.specs.f_tree.Terms.{Wanted, AsSubroutine, AsFunction}
use Rattle.procedure_emission.specs.f_tree.Store.{Store, undefined_units}
use Rattle.procedure_emission.specs.f_tree.Facts.{Attribute, UnitKind, MainProgram, SubroutineUnit, FunctionUnit, BlockDataUnit, EntryPoint, Facts, Frame}
use Rattle.procedure_emission.specs.f_tree.Setting.{IsIn, first_in}
use Rattle.procedure_emission.specs.f_tree.Valuing.{either_bounds, bounds_of}
use Rattle.procedure_emission.specs.f_tree.World as fortran
use Rattle.procedure_emission.specs.f_tree.World.{Called, Procedure, Passed, fortran_sorts}
use Rattle.procedure_emission.specs.f_tree.Association as association
use Rattle.procedure_emission.specs.f_tree.Association.{same_basic, same_width, serves, all_dimensions_by, bounds_for, result_of, with_result, frame_of}
use Rattle.procedure_emission.specs.l_core.Pures.{none_kept}
use Rattle.procedure_emission.specs.l_core.Steps.{Text}
use Rattle.procedure_emission.specs.l_core.Machine.{View, begun}
use Rattle.procedure_emission.specs.l_core.Costs.{cost}
use Rattle.procedure_emission.specs.c_tree.declared.outcome.CValue.{CValue}
use Rattle.procedure_emission.specs.c_tree.declared.outcome.CValue.TheVariants.{Pointer, Function}
use Rattle.procedure_emission.specs.c_tree.declared.outcome.CFault.TheVariants.{Disagree}
use Rattle.procedure_emission.specs.c_tree.Faults.{Faults}
use Rattle.procedure_emission.specs.c_tree.Access.{ToNumber, ToPointer, ToFunction}
use Rattle.procedure_emission.specs.c_tree.Declarations.{unset_values}
use Rattle.procedure_emission.specs.c_tree.Objects as objects_of
use Rattle.procedure_emission.specs.c_tree.Objects.{Object}
use Rattle.procedure_emission.specs.c_tree.Linking as linking
use Rattle.procedure_emission.specs.c_tree.World as c
use Rattle.procedure_emission.specs.c_tree.Steps as c_steps
use Rattle.procedure_emission.specs.c_tree.Steps.{language, first_view, with_frame, all_bound, all_fit, bound}
use Rattle.procedure_emission.specs.c_image.World.{World, changed, with_held, with_sequence, framed, Extends, IsIdle}
use Rattle.procedure_emission.specs.c_image.Standing.{Stands}
use Rattle.procedure_emission.specs.c_image.Addresses.{Through, access_to, pointer_object, HasShape, Reaches}
use Rattle.procedure_emission.proofs.c_image_laws.CallsStand.{length-all_bound, begins_stand, result_stands}
use Rattle.procedure_emission.proofs.c_image_laws.Growing.{changed_there, changed_elsewhere, extends_through, extends_grown, extends_framed}
use Rattle.procedure_emission.proofs.c_image_laws.IdleFrames.{idle_beside_sequence, idle_beside_frame, idle_beside_object}
use Rattle.procedure_emission.proofs.c_image_laws.ListLaws.{by_equal}
use Rattle.procedure_emission.proofs.c_image_laws.Parameters.{parameter_at, temporary_at}
use Rattle.procedure_emission.proofs.c_image_laws.SoundPlaces.{sound_later}
use Rattle.procedure_emission.specs.c_emit.Numbers.{is_numeric}
use Rattle.procedure_emission.specs.c_emit_laws.EmittedNumbers.{IsKnown}
use Rattle.procedure_emission.proofs.c_emit_laws.Choices.{some_same}
use Rattle.procedure_emission.specs.emitted_texts.SecondLayer.{Room, Surroundings, Emission, IsFree, BothStand, IsTemporary, TransfersStand}
use Rattle.procedure_emission.proofs.emitted_texts.Worlds.{extends_changed}
use Rattle.procedure_emission.specs.Reading.{number_kept}
use Rattle.procedure_emission.specs.kept_bounds.KeptBounds.{without_bounds}
use Rattle.procedure_emission.specs.bound_items.BoundItems.{Saving, AreSaved, ComesBehind}
use Rattle.procedure_emission.proofs.bound_items.KeptItems.{bounds_are_kept}
use Rattle.procedure_emission.specs.CallLayer.{CallWorld, function_object, ResultIsPassed, CallsAlike, IsFrameOf, AreProceduresHeld, IsStaged, IsAtStep, call_couple, IsEarly, entered_couple}
use Rattle.procedure_emission.specs.DummyBounds.{dummies_named, IsMadeAnew}
use Rattle.procedure_emission.specs.EmittedUnits.{IsOfRoom, ResultIsMade, IsEmittedUnit, IsCosted}
use Rattle.emitted_procedures.proofs.Begins.{first_frame, IsBegun, procedure_begins}
use Rattle.emitted_procedures.proofs.Calling.{IsPlainWant}
use Rattle.emitted_procedures.proofs.Dummies as bound_laws
use Rattle.emitted_procedures.proofs.Dummies.{DummyAt, IsBoundTo, AreBound, dummies_bound, names_bound}
use Rattle.emitted_procedures.proofs.Keeping.{no_element, placed, saved_from, HoldsItsValue, held_at, bounds_known}
use Rattle.emitted_procedures.proofs.KeptNumbers.{left_true}
use Rattle.emitted_procedures.proofs.Known as known_laws
use Rattle.emitted_procedures.proofs.Known.{DummyStands, IsDummy, ResultStands, FrameStands, known_at_first, known_with}
use Rattle.emitted_procedures.proofs.Steering.{own_idle, made_far, not_held_yet}

-- ## What is wanted

numeric_wanted : (a b : Basic) → is_numeric a ≡ true → same_basic a b ≡ true → (width : ℕ) → IsPlainWant (AsFunction b width)
unfolding is_numeric same_basic
numeric_wanted basic.Integer basic.Integer numeric same width = tt
numeric_wanted basic.Logical basic.Logical numeric same width = tt
numeric_wanted basic.Character b numeric same width = absurd (cc)
numeric_wanted basic.Untyped b numeric same width = absurd (cc)
numeric_wanted _ _ numeric same width = absurd (cc)

plain_served : (kind : UnitKind) (a : Attribute) (want : Wanted) → (kind ≡ FunctionUnit → is_numeric a.basic ≡ true) → serves kind a want ≡ true → IsPlainWant want
unfolding serves
plain_served kind a AsSubroutine numeric h = tt
plain_served FunctionUnit a (AsFunction b width) numeric h = numeric_wanted a.basic b (numeric refl) (left_true (same_basic a.basic b) (same_width b a.width width) h) width
plain_served MainProgram a (AsFunction b width) numeric h = absurd (cc)
plain_served SubroutineUnit a (AsFunction b width) numeric h = absurd (cc)
plain_served BlockDataUnit a (AsFunction b width) numeric h = absurd (cc)

no_place : (μ : World) (want : Wanted) (r : Option Spot) (values : List CValue) → IsPlainWant want → ResultIsPassed μ want r values → (r ≡ None) × (values ≡ [])
no_place μ AsSubroutine r values plain passed = passed
no_place μ (AsFunction basic.Integer width) r values plain passed = passed
no_place μ (AsFunction basic.Logical width) r values plain passed = passed
no_place μ (AsFunction basic.Character width) r values plain passed = absurd plain
no_place μ (AsFunction basic.Untyped width) r values plain passed = absurd plain

no_result_of : (kind : UnitKind) (a : Attribute) (store : Store) → kind ≢ FunctionUnit → result_of kind a None store ≡ None
unfolding result_of
no_result_of MainProgram a store other = refl
no_result_of SubroutineUnit a store other = refl
no_result_of FunctionUnit a store other = absurd (other refl)
no_result_of BlockDataUnit a store other = refl

-- the place of a result of numbers
abbrev first_result : Basic → ℕ → Spot
first_result b n = record { basic = b; sequence = n; first = 0; extent = 4; width = 4 }

result_of_function : (kind : UnitKind) (a : Attribute) (store : Store) → kind ≡ FunctionUnit → result_of kind a None store ≡ Some (first_result a.basic (length store))
unfolding result_of
result_of_function kind a store is = ap (λ k. result_of k a None store) is

numeric_shape : (b : Basic) (n : ℕ) → is_numeric b ≡ true → HasShape b (first_result b n)
unfolding is_numeric
numeric_shape basic.Integer n h = (refl, refl)
numeric_shape basic.Logical n h = (refl, refl)
numeric_shape basic.Character n h = absurd (cc)
numeric_shape basic.Untyped n h = absurd (cc)

numeric_access : (b : Basic) → is_numeric b ≡ true → access_to b ≡ ToNumber
unfolding is_numeric
numeric_access basic.Integer h = refl
numeric_access basic.Logical h = refl
numeric_access basic.Character h = absurd (cc)
numeric_access basic.Untyped h = absurd (cc)

no_character : (b : Basic) → is_numeric b ≡ true → b ≢ basic.Character
unfolding is_numeric
no_character b h same = let wrong : false ≡ true = ap is_numeric (sym same) ∙ h in cc

through_same : (a b : ℕ) → Through a ≡ Through b → a ≡ b
through_same a b h = cc

nothing_among : {A : Type 0} {B : Type 0} (a : A) → None ≡ Some a → B
nothing_among a h = absurd (cc)

framed_length : (function : linking.Function) (values : List CValue) (objects : List Object) → function.frame + length function.fresh ≤ length objects → length (with_frame function values objects) ≡ length objects
framed_length function values objects room =
    let front = length-take-le function.frame objects (omega (arith, room)) in
    let back = length-drop (function.frame + length function.fresh) objects in
    let made = length-all_bound values function.fresh in
    let all = length-append (take function.frame objects ++ all_bound values function.fresh) (drop (function.frame + length function.fresh) objects) in
    let more = length-append (take function.frame objects) (all_bound values function.fresh) in
    let is : length (with_frame function values objects) ≡ length (take function.frame objects ++ all_bound values function.fresh ++ drop (function.frame + length function.fresh) objects) = refl in
    omega (arith, room, front, back, made, all, more, is)

module _ (s : Surroundings) (number : ℕ) (u : Text) (costs : List ℕ) (e : Emission) (is : IsEmittedUnit s number u costs e) where
  -- what stands when the function has begun
  record IsLaid (μ : World) (values : List CValue) (store : Store) (objects : List Object) : Type 0 where
    now : World
    grown : Extends μ now
    stands : Stands now store objects
    others : (j : ℕ) → nat_eq j number ≡ false → IsFree (s.rooms j) μ → IsFree (s.rooms j) now
    parameters : (i : ℕ) (value : CValue) (object : Object) → i < length e.function.parameters → slice_get values i ≡ Some value → slice_get e.function.fresh i ≡ Some object → now.frozen (e.function.frame + i) ≡ Some (bound value object)
    temporaries : (k : ℕ) → e.writing.is_number k ≡ true → IsTemporary now (e.writing.naming.temporary k)
    rooms : (i : ℕ) (one : Saving) → slice_get is.savings i ≡ Some one → IsTemporary now one.object
    result : u.facts.program.kind ≡ FunctionUnit → (x : Bytes) → (u.facts.program.attribute x).class ≡ class.Result → ResultStands now e x (first_result (u.facts.program.attribute x).basic μ.height)

  module _ (μ : World) (values : List CValue) (store : Store) (y : c.World) (free : IsFree (s.rooms number) μ) (as_many : length values ≡ length e.function.parameters) (stood : Stands μ store y.objects) (many : length y.objects ≡ s.objects) where
    idle : IsIdle e.function.frame (length e.function.fresh) μ
    idle = own_idle s number u costs e is μ free

    room : e.function.frame + length e.function.fresh ≤ length y.objects
    room = subst (λ n. e.function.frame + length e.function.fresh ≤ n) (sym many) is.inside

    idle_bound : IsIdle e.function.frame (length (all_bound values e.function.fresh)) μ
    idle_bound = subst (λ n. IsIdle e.function.frame n μ) (sym (length-all_bound values e.function.fresh)) idle

    grown_framed : Extends μ (framed e.function.frame (all_bound values e.function.fresh) μ)
    grown_framed = extends_framed μ e.function.frame (all_bound values e.function.fresh) idle_bound

    others_framed : (j : ℕ) → nat_eq j number ≡ false → IsFree (s.rooms j) μ → IsFree (s.rooms j) (framed e.function.frame (all_bound values e.function.fresh) μ)
    others_framed j apart idle' =
        idle_beside_frame μ (s.rooms j).first (s.rooms j).count e.function.frame (all_bound values e.function.fresh) idle'
        (λ k low high from under. is.apart_rooms.rooms j k apart (low, high)
        (subst (λ (r : Room). IsOfRoom r k) (sym is.room) (from, subst (λ n. k < e.function.frame + n) (length-all_bound values e.function.fresh) under)))

    temporary_framed : (object : ℕ) → IsMadeAnew e object → IsTemporary (framed e.function.frame (all_bound values e.function.fresh) μ) object
    temporary_framed object made =
        let at = made.in_frame in
        let below = slice_get_within e.function.fresh at.index (objects_of.Bytes at.bytes) at.is in
        let is_at = at.at in
        let behind = made.behind in
        record {
          bytes = at.bytes;
          holds = ap (framed e.function.frame (all_bound values e.function.fresh) μ).frozen at.at ∙ temporary_at μ e.function.frame at.index values e.function.fresh (objects_of.Bytes at.bytes) (omega (arith, behind, as_many)) at.is;
          room = at.room;
          homeless = λ n low home. idle.no_home n object low home (omega (arith, is_at)) (omega (arith, is_at, below));
        }

    -- a procedure that is no function
    plain_laid : u.facts.program.kind ≢ FunctionUnit → IsLaid μ values store (with_frame e.function values y.objects)
    plain_laid other = record {
      now = framed e.function.frame (all_bound values e.function.fresh) μ;
      grown = grown_framed;
      stands = begins_stand μ store y.objects e.function values stood idle room;
      others = others_framed;
      parameters = λ i value object low is_value there. parameter_at μ e.function.frame i values e.function.fresh value object is_value there;
      temporaries = λ k numeric. temporary_framed (e.writing.naming.temporary k) (is.temporaries k numeric);
      rooms = λ i one at. temporary_framed one.object (is.bounds.saved i one at).made;
      result = λ function x own. absurd (other function);
    }

    -- a temporary beside the result
    temporary_there : (object result : ℕ) → object ≢ result → IsTemporary (framed e.function.frame (all_bound values e.function.fresh) μ) object
        → IsTemporary (with_sequence (with_held (framed e.function.frame (all_bound values e.function.fresh) μ) result None) (Some result) (undefined_units 4)) object
    temporary_there object result apart old = record {
      bytes = old.bytes;
      holds = changed_elsewhere (framed e.function.frame (all_bound values e.function.fresh) μ).frozen result object None apart ∙ old.holds;
      room = old.room;
      homeless = λ n low home. by_equal ⊥ n μ.height
          (λ same. apart (sym (some_same result object
          (sym (subst (λ k. changed μ.homes μ.height (Some result) k ≡ Some result) (sym same) (changed_there μ.homes μ.height (Some result))) ∙ home))))
          (λ other. old.homeless n (omega (arith, low, other)) (sym (changed_elsewhere μ.homes μ.height n (Some result) other) ∙ home));
    }

    -- a function: its result has a sequence of its own
    function_laid : ResultIsMade u e is.entry → IsLaid μ values (store ++ undefined_units 4 ∷ []) (with_frame e.function values y.objects)
    unfolding undefined_units
    function_laid made =
        let first = framed e.function.frame (all_bound values e.function.fresh) μ in
        let own = temporary_framed made.object made.made in
        record {
          now = with_sequence (with_held first made.object None) (Some made.object) (undefined_units 4);
          grown = extends_through μ (with_held first made.object None) (with_sequence (with_held first made.object None) (Some made.object) (undefined_units 4))
              (extends_changed μ first made.object None grown_framed (not_held_yet s number u costs e is μ free made.object made.made)) (extends_grown (with_held first made.object None) (Some made.object) (undefined_units 4));
          stands = result_stands first store (with_frame e.function values y.objects) made.object 4 own.bytes (begins_stand μ store y.objects e.function values stood idle room) own.holds own.room (omega arith) own.homeless;
          others = λ j apart free'. idle_beside_sequence (with_held first made.object None) (s.rooms j).first (s.rooms j).count made.object (undefined_units 4)
              (idle_beside_object first (s.rooms j).first (s.rooms j).count made.object None (others_framed j apart free') (made_far s number u costs e is made.object made.made j apart)) (made_far s number u costs e is made.object made.made j apart);
          parameters = λ i value object low is_value there.
              changed_elsewhere first.frozen made.object (e.function.frame + i) None (λ same. (let at = made.made.in_frame.at in let behind = made.made.behind in omega (arith, same, at, behind, low)))
              ∙ parameter_at μ e.function.frame i values e.function.fresh value object is_value there;
          temporaries = λ k numeric. temporary_there (e.writing.naming.temporary k) made.object (made.apart k numeric) (temporary_framed (e.writing.naming.temporary k) (is.temporaries k numeric));
          rooms = λ i one at.
              temporary_there one.object made.object (λ same. (is.bounds.saved i one at).results is.entry.name made.object (ap (λ (f : Facts). (f.program.attribute is.entry.name).class) is.facts ∙ made.own) (made.address is.entry.name made.own) (sym same))
              (temporary_framed one.object (is.bounds.saved i one at).made);
          result = λ same x own'. record {
            sound = record {
              there = omega arith;
              shaped = numeric_shape (u.facts.program.attribute x).basic μ.height (made.numeric x own');
              inside = subst (λ size. 0 + 4 ≤ size) (sym (changed_there first.size μ.height 4)) (omega arith);
            };
            reaches = subst (Reaches (with_sequence (with_held first made.object None) (Some made.object) (undefined_units 4)) (first_result (u.facts.program.attribute x).basic μ.height)) (sym (made.address x own'))
                (changed_there first.homes μ.height (Some made.object), refl);
          };
        }

  -- ## Where the procedure begins

  -- the frame of the procedure, and its dummies
  module _ (μ : CallWorld) (x : fortran.World) (n : Called) (a : Passed) (y : c.World) (function : ℕ) (values : List CValue) (houses : Extends s.first μ.image) (free : IsFree (s.rooms number) μ.image) (calls : CallsAlike s μ x n a y function values)
      (x' : fortran.World) (v : fortran.View) (begins : IsBegun u.facts is.entry a x x' v) where
    plain : IsPlainWant a.want
    plain = plain_served u.facts.program.kind (u.facts.program.attribute is.entry.name) a.want (λ same. (let made = is.result same in made.numeric is.entry.name made.own)) begins.served

    nothing : (a.result ≡ None) × (calls.result ≡ [])
    nothing = no_place μ.image a.want a.result calls.result plain calls.result_passed

    binds : AreBound s u e μ.image 0 e.function.parameters a.actuals calls.arguments begins.bindings
    binds = dummies_bound s u e μ.image 0 is.entry.formals e.function.parameters a.actuals calls.arguments begins.bindings is.parameters calls.are_passed begins.bound

    values_are : values ≡ calls.arguments
    values_are = calls.values_are ∙ (λ i. nothing.1 i ++ calls.arguments ++ binds.no_lengths i) ∙ append-nil calls.arguments

    as_many : length values ≡ length e.function.parameters
    as_many = ap length values_are ∙ binds.as_many

    all_fits : all_fit e.function.parameters values ≡ true
    all_fits = ap (all_fit e.function.parameters) values_are ∙ binds.fit

    store_is : with_result u.facts.program.kind a.result x.store ≡ with_result u.facts.program.kind None x.store
    store_is = ap (λ r. with_result u.facts.program.kind r x.store) nothing.0

    high : length x.store ≡ μ.image.height
    high = calls.both.stands.as_high

    laid_by : (kind : UnitKind) → u.facts.program.kind ≡ kind → IsLaid μ.image values (with_result kind None x.store) (with_frame e.function values y.objects)
    unfolding with_result
    laid_by MainProgram same = plain_laid μ.image values x.store y free as_many calls.both.stands calls.both.as_many (λ function. other (sym same ∙ function))
      where
        other : MainProgram ≡ FunctionUnit → ⊥
        other wrong = cc
    laid_by SubroutineUnit same = plain_laid μ.image values x.store y free as_many calls.both.stands calls.both.as_many (λ function. other (sym same ∙ function))
      where
        other : SubroutineUnit ≡ FunctionUnit → ⊥
        other wrong = cc
    laid_by FunctionUnit same = function_laid μ.image values x.store y free as_many calls.both.stands calls.both.as_many (is.result same)
    laid_by BlockDataUnit same = absurd (is.runs same)

    module _ (laid : IsLaid μ.image values (with_result u.facts.program.kind None x.store) (with_frame e.function values y.objects)) where
      attribute_is : (z : Bytes) → e.writing.facts.program.attribute z ≡ u.facts.program.attribute z
      attribute_is z = ap (λ (f : Facts). f.program.attribute z) is.facts

      bound_to : (z : Bytes) (d : Datum) → v.frame.bound z ≡ Some d → IsBoundTo s u e μ.image 0 calls.arguments z d
      unfolding frame_of
      bound_to z d h = binds.dummy z d (sym (ap (λ (f : Frame). f.bound z) begins.frame) ∙ h)

      dummy_stands : (z : Bytes) (d : Datum) → DummyAt u e μ.image 0 calls.arguments z d → DummyStands laid.now e z d
      dummy_stands z d one =
          let sound = sound_later μ.image laid.now one.spot laid.grown one.sound in
          let place : one.place ≡ one.index = (let at = one.place_is in omega (arith, at)) in
          let passed : slice_get values one.index ≡ Some (Pointer one.object one.spot.first) = ap (λ vs. slice_get vs one.index) values_are ∙ one.passed in
          let low : one.index < length e.function.parameters = (let within = slice_get_within values one.index (Pointer one.object one.spot.first) passed in omega (arith, within, as_many)) in
          let held = laid.parameters one.index (Pointer one.object one.spot.first) (unset_values (ToPointer ToNumber) 1) low passed (subst (λ i. slice_get e.function.fresh i ≡ Some (unset_values (ToPointer ToNumber) 1)) place one.parameter.fresh) in
          let address : Through (e.function.frame + one.index) ≡ e.writing.naming.address z = ap (λ i. Through (e.function.frame + i)) (sym place) ∙ sym one.parameter.address in
          let numeric : ToNumber ≡ access_to one.spot.basic = sym (ap access_to one.basic ∙ numeric_access (u.facts.program.attribute z).basic one.parameter.numeric) in
          record {
            spot = one.spot;
            is = one.is;
            sound = sound;
            reaches = subst (Reaches laid.now one.spot) address (one.object, laid.grown.homes one.spot.sequence one.sound.there ∙ one.home, held ∙ ap (λ access. Some (pointer_object access (Pointer one.object one.spot.first))) numeric);
            basic = one.basic ∙ ap (λ (b : Attribute). b.basic) (sym (attribute_is z));
          }

      dummy_is : (z : Bytes) (d : Datum) → IsBoundTo s u e μ.image 0 calls.arguments z d → IsDummy laid.now e z d
      dummy_is z d (bound_laws.a_place one) = known_laws.a_place (dummy_stands z d one)
      dummy_is z d (bound_laws.a_procedure one) = known_laws.a_procedure one.name one.is (ap (λ (b : Attribute). b.class) (attribute_is z) ∙ one.parameter.dummy)

      -- the parameter of a dummy procedure holds its function
      procedure_held : (z : Bytes) (d : Datum) (parameter : ℕ) → (e.writing.facts.program.attribute z).class ≡ class.DummyProcedure → IsBoundTo s u e μ.image 0 calls.arguments z d → e.writing.naming.address z ≡ Through parameter
          → (y : Bytes) × (number : ℕ) × (d ≡ IsProc y) × (s.numbers (Procedure y) ≡ Some number) × (laid.now.frozen parameter ≡ Some (function_object number))
      procedure_held z d parameter own (bound_laws.a_place one) address =
          let wrong : class.Dummy ≡ class.DummyProcedure = sym one.parameter.dummy ∙ ap (λ (b : Attribute). b.class) (sym (attribute_is z)) ∙ own in absurd (cc)
      procedure_held z d parameter own (bound_laws.a_procedure one) address =
          let place : one.place ≡ one.index = (let at = one.place_is in omega (arith, at)) in
          let passed : slice_get values one.index ≡ Some (Function one.function) = ap (λ vs. slice_get vs one.index) values_are ∙ one.passed in
          let low : one.index < length e.function.parameters = (let within = slice_get_within values one.index (Function one.function) passed in omega (arith, within, as_many)) in
          let held = laid.parameters one.index (Function one.function) (unset_values ToFunction 1) low passed (subst (λ i. slice_get e.function.fresh i ≡ Some (unset_values ToFunction 1)) place one.parameter.fresh) in
          let at : e.function.frame + one.index ≡ parameter = through_same (e.function.frame + one.index) parameter (ap (λ i. Through (e.function.frame + i)) (sym place) ∙ sym one.parameter.address ∙ address) in
          (one.name, one.function, one.is, one.numbered, subst (λ k. laid.now.frozen k ≡ Some (function_object one.function)) at held)

      no_result_there : {A : Type 0} (z : Bytes) (q : Spot) → u.facts.program.kind ≢ FunctionUnit → v.frame.result ≡ Some q → A
      unfolding frame_of
      no_result_there z q other h =
          nothing_among q (sym (ap (λ (f : Frame). f.result) begins.frame ∙ ap (λ r. result_of u.facts.program.kind (u.facts.program.attribute is.entry.name) r x.store) nothing.0
          ∙ no_result_of u.facts.program.kind (u.facts.program.attribute is.entry.name) x.store other) ∙ h)

      result_stands_at : (kind : UnitKind) → u.facts.program.kind ≡ kind → (z : Bytes) (q : Spot) → (e.writing.facts.program.attribute z).class ≡ class.Result → v.frame.result ≡ Some q
          → ResultStands laid.now e z (record q { basic = (e.writing.facts.program.attribute z).basic })
      unfolding frame_of
      result_stands_at FunctionUnit same z q own h =
          let there : v.frame.result ≡ Some (first_result (u.facts.program.attribute is.entry.name).basic (length x.store)) =
          ap (λ (f : Frame). f.result) begins.frame ∙ ap (λ r. result_of u.facts.program.kind (u.facts.program.attribute is.entry.name) r x.store) nothing.0
          ∙ result_of_function u.facts.program.kind (u.facts.program.attribute is.entry.name) x.store same in
          let spot : first_result (u.facts.program.attribute is.entry.name).basic (length x.store) ≡ q = some_same _ q (sym there ∙ h) in
          let stands = laid.result same z (ap (λ (b : Attribute). b.class) (sym (attribute_is z)) ∙ own) in
          subst (λ (p : Spot). ResultStands laid.now e z (record p { basic = (e.writing.facts.program.attribute z).basic })) spot
          (subst (λ k. ResultStands laid.now e z (first_result (e.writing.facts.program.attribute z).basic k)) (sym high)
          (subst (λ (b : Attribute). ResultStands laid.now e z (first_result b.basic μ.image.height)) (sym (attribute_is z)) stands))
      result_stands_at MainProgram same z q own h = no_result_there z q (λ function. other (sym same ∙ function)) h
        where
          other : MainProgram ≡ FunctionUnit → ⊥
          other wrong = cc
      result_stands_at SubroutineUnit same z q own h = no_result_there z q (λ function. other (sym same ∙ function)) h
        where
          other : SubroutineUnit ≡ FunctionUnit → ⊥
          other wrong = cc
      result_stands_at BlockDataUnit same z q own h = absurd (is.runs same)

      -- what it knows while no array has bounds
      frame_stands : FrameStands laid.now e (without_bounds v.frame)
      unfolding frame_of
      frame_stands = record {
        dummies = λ z d h. dummy_is z d (bound_to z d h);
        result = λ z q own h. result_stands_at u.facts.program.kind refl z q own h;
        lengths = λ z k h own. no_character (e.writing.facts.program.attribute z).basic
            (ap (λ (b : Attribute). is_numeric b.basic) (attribute_is z) ∙ binds.numeric z k (sym (ap (λ (f : Frame). f.lengths z) begins.frame) ∙ h) (ap (λ (b : Attribute). b.class) (sym (attribute_is z)) ∙ own));
      }

      no_bounds : (z : Bytes) → bounds_of e.writing.facts (without_bounds v.frame) z ≡ []
      unfolding bounds_of either_bounds
      no_bounds z = refl

      known_at_entry : IsKnown laid.now e.writing (without_bounds v.frame) none_kept
      known_at_entry = known_at_first s number u costs e is laid.now (without_bounds v.frame) (extends_through s.first μ.image laid.now houses laid.grown) frame_stands no_bounds

      frame_is : IsFrameOf e.writing.facts.program μ v.frame
      unfolding frame_of
      frame_is = record {
        called = subst (λ (one : EntryPoint). IsIn one e.writing.facts.program.entries) (sym (ap (λ (f : Frame). f.called) begins.frame)) (subst (IsIn is.entry) (sym (ap (λ (f : Facts). f.program.entries) is.facts ∙ is.only)) first_in);
        served = ap (λ (one : EntryPoint). serves e.writing.facts.program.kind (e.writing.facts.program.attribute one.name) μ.wanted) (ap (λ (f : Frame). f.called) begins.frame)
            ∙ ap (λ (f : Facts). serves f.program.kind (f.program.attribute is.entry.name) μ.wanted) is.facts
            ∙ ap (serves u.facts.program.kind (u.facts.program.attribute is.entry.name)) (sym calls.want) ∙ begins.served;
        base = ap (λ (f : Frame). f.base) begins.frame ∙ high;
        no_result = λ other. ap (λ (f : Frame). f.result) begins.frame ∙ ap (λ r. result_of u.facts.program.kind (u.facts.program.attribute is.entry.name) r x.store) nothing.0
            ∙ no_result_of u.facts.program.kind (u.facts.program.attribute is.entry.name) x.store (λ function. other (ap (λ (f : Facts). f.program.kind) is.facts ∙ function));
        result = λ function. (
          first_result (u.facts.program.attribute is.entry.name).basic (length x.store),
          ap (λ (f : Frame). f.result) begins.frame ∙ ap (λ r. result_of u.facts.program.kind (u.facts.program.attribute is.entry.name) r x.store) nothing.0
              ∙ result_of_function u.facts.program.kind (u.facts.program.attribute is.entry.name) x.store (sym (ap (λ (f : Facts). f.program.kind) is.facts) ∙ function),
          ap (λ (one : EntryPoint). (u.facts.program.attribute one.name).basic) (sym (ap (λ (f : Frame). f.called) begins.frame)) ∙ ap (λ (b : Attribute). b.basic) (sym (attribute_is v.frame.called.name)),
        );
      }

      -- ## The bounds of its dummies

      abbrev at_call : Frame
      at_call = first_frame u.facts is.entry a x begins.bindings

      abbrev store : Store
      store = with_result u.facts.program.kind a.result x.store

      bare : without_bounds at_call ≡ without_bounds v.frame
      unfolding frame_of
      bare = ap without_bounds (sym begins.frame)

      are_named : begins.bindings.names ≡ dummies_named is.entry.formals
      are_named = names_bound u.facts.program is.entry.formals a.actuals begins.bindings begins.bound

      fixed : all_dimensions_by e.writing.facts at_call store begins.bindings.names ≡ Gives begins.bounds
      fixed = subst (λ c. all_dimensions_by c at_call store begins.bindings.names ≡ Gives begins.bounds) (sym is.facts) begins.fixed

      dimensions_are : (z : Bytes) → v.frame.dimensions z ≡ bounds_for z begins.bindings.names begins.bounds
      dimensions_are z = ap (λ (f : Frame). f.dimensions z) begins.frame

      abbrev HoldsIts : World → Saving → Type 0
      HoldsIts = HoldsItsValue e is.entry.formals is.savings is.bounds at_call v.frame store begins.bindings.names begins.bounds bare are_named fixed

      -- where the objects hold what they keep, it knows its names
      known_behind : (ν : World) → IsKnown ν e.writing (without_bounds v.frame) none_kept → ((i : ℕ) (one : Saving) → slice_get is.savings i ≡ Some one → HoldsIts ν one) → IsKnown ν e.writing v.frame none_kept
      known_behind ν known holds =
          known_with ν e v.frame known (bounds_known e is.entry.formals is.savings is.bounds at_call v.frame store begins.bindings.names begins.bounds bare are_named fixed ν holds dimensions_are)

      -- ## At the first step

      framed_many : length (with_frame e.function values y.objects) ≡ s.objects
      framed_many = framed_length e.function values y.objects (subst (λ n. e.function.frame + length e.function.fresh ≤ n) (sym calls.both.as_many) is.inside) ∙ calls.both.as_many

      both_stand : (ν : World) (objects : List Object) → Extends μ.image ν → Stands ν store objects → length objects ≡ s.objects → BothStand s μ.image ν x' (record y { objects = objects })
      both_stand ν objects grown stood many = record {
        extends = grown;
        stands = subst (λ (w : fortran.World). Stands ν w.store objects) (sym begins.world) stood;
        units = ap (λ (w : fortran.World). w.units) begins.world ∙ calls.both.units;
        transfers = subst (λ (w : fortran.World). TransfersStand μ.image w.transfer y.transfer) (sym begins.world) calls.both.transfers;
        as_many = many;
      }

      stands_at_entry : Stands laid.now store (with_frame e.function values y.objects)
      stands_at_entry = subst (λ z. Stands laid.now z (with_frame e.function values y.objects)) (sym store_is) laid.stands

      -- what stands where nothing is left to be kept
      record IsReady (ν : World) (objects : List Object) : Type 0 where
        grown : Extends μ.image ν
        stands : Stands ν store objects
        as_many : length objects ≡ s.objects
        others : (j : ℕ) → nat_eq j number ≡ false → IsFree (s.rooms j) μ.image → IsFree (s.rooms j) ν
        known : IsKnown ν e.writing v.frame none_kept
        temporaries : (k : ℕ) → e.writing.is_number k ≡ true → IsTemporary ν (e.writing.naming.temporary k)
        procedures : AreProceduresHeld s e ν v.frame

      abbrev view_at : View
      view_at = record { frame = v.frame; at = u.begins v.frame.called.start; kept = none_kept; height = 0 }

      at_step : (ν : World) (objects : List Object) → IsReady ν objects → IsAtStep s number e μ view_at x' (record first_view { position = length is.savings }) (record y { objects = objects })
      unfolding number_kept frame_of
      at_step ν objects there = record {
        position = sym (ap (λ (f : Frame). e.place (u.begins f.called.start)) begins.frame ∙ is.begins);
        plain = λ k d holds. nothing_among d holds;
        typed = λ k d basic holds kind. nothing_among d holds;
        staged = subst (IsStaged μ x' (record y { objects = objects })) (sym (ap (λ (f : Frame). e.stage (u.begins f.called.start)) begins.frame ∙ is.fit.none_at_first))
            (ap (λ (w : fortran.World). w.transfer) begins.world ∙ calls.found.0, calls.found.1);
        active = record {
          now = ν;
          housed = houses;
          both = both_stand ν objects there.grown there.stands there.as_many;
          free = free;
          others = there.others;
          frame = frame_is;
          known = there.known;
          temporaries = there.temporaries;
          procedures = there.procedures;
        };
      }

      procedures_at_entry : AreProceduresHeld s e laid.now v.frame
      procedures_at_entry = λ z d parameter own h address. procedure_held z d parameter own (bound_to z d h) address

      -- ## Behind what is kept

      module _ (one : Saving) (rest : List Saving) (zs : List ℤ) (some : is.savings ≡ one ∷ rest) (saved : AreSaved laid.now e.writing v.frame store e.function.code 0 (one ∷ rest) zs)
          (behind : ComesBehind laid.now e.writing v.frame store e.function first_view (record y { objects = with_frame e.function values y.objects }) (one ∷ rest) zs) where
        abbrev now : World
        now = record laid.now { frozen = behind.frozen }

        does_first : Does language (λ w. 1) e.function first_view (record y { objects = with_frame e.function values y.objects }) (length (one ∷ rest)) (Goes (record first_view { position = length (one ∷ rest) }) (record y { objects = behind.objects }))
        does_first =
            subst (λ n. Does language (λ w. 1) e.function first_view (record y { objects = with_frame e.function values y.objects }) (length (one ∷ rest)) (Goes (record first_view { position = n }) (record y { objects = behind.objects })))
            {x = 0 + length (one ∷ rest)} {y = length (one ∷ rest)} (omega arith) behind.does

        among_savings : (other : Saving) → IsIn other (one ∷ rest) → (i : ℕ) × (slice_get is.savings i ≡ Some other)
        among_savings other among = let at = placed other (one ∷ rest) among in (at.0, ap (λ ones. slice_get ones at.0) some ∙ at.1)

        made_among : (other : Saving) → IsIn other (one ∷ rest) → IsMadeAnew e other.object
        made_among other among = let at = among_savings other among in (is.bounds.saved at.0 other at.1).made

        grown_behind : Extends μ.image now
        grown_behind = record {
          higher = laid.grown.higher;
          homes = laid.grown.homes;
          size = laid.grown.size;
          fixed = laid.grown.fixed;
          frozen = λ k object held. behind.same k (λ other among same.
              nothing_among object (sym (not_held_yet s number u costs e is μ.image free other.object (made_among other among)) ∙ ap μ.image.frozen same ∙ held)) ∙ laid.grown.frozen k object held;
        }

        others_behind : (j : ℕ) → nat_eq j number ≡ false → IsFree (s.rooms j) μ.image → IsFree (s.rooms j) now
        others_behind j apart free' =
            let idle = laid.others j apart free' in
            record {
              no_home = idle.no_home;
              not_held = λ k low high. behind.same k (λ other among same.
                  made_far s number u costs e is other.object (made_among other among) j apart (subst (λ n. (s.rooms j).first ≤ n) (sym same) low) (subst (λ n. n < (s.rooms j).first + (s.rooms j).count) (sym same) high)) ∙ idle.not_held k low high;
            }

        temporaries_behind : (k : ℕ) → e.writing.is_number k ≡ true → IsTemporary now (e.writing.naming.temporary k)
        temporaries_behind k numeric =
            let old = laid.temporaries k numeric in
            record {
              bytes = old.bytes;
              holds = behind.same (e.writing.naming.temporary k) (λ other among same. (let at = among_savings other among in (is.bounds.saved at.0 other at.1).temporaries k numeric (sym same))) ∙ old.holds;
              room = old.room;
              homeless = old.homeless;
            }

        procedures_behind : AreProceduresHeld s e now v.frame
        procedures_behind = λ z d parameter own h address.
            let old = procedures_at_entry z d parameter own h address in
            (old.0, old.1, old.2, old.3, behind.same parameter (λ other among same. (let at = among_savings other among in (is.bounds.saved at.0 other at.1).addresses z parameter address (sym same))) ∙ old.4)

        is_ready : IsReady now behind.objects
        is_ready = record {
          grown = grown_behind;
          stands = behind.stands;
          as_many = behind.as_many ∙ framed_many;
          others = others_behind;
          known = known_behind now behind.known (λ i other at. held_at e is.entry.formals is.savings is.bounds at_call v.frame store begins.bindings.names begins.bounds bare are_named fixed laid.now now 0 (one ∷ rest) zs saved behind.held i other
              (ap (λ ones. slice_get ones i) (sym some) ∙ at));
          temporaries = temporaries_behind;
          procedures = procedures_behind;
        }

      module _ (later : List ℕ) (costed : IsCosted u costs later is.entry is.savings) where
        starts_by : c_steps.start e.function function values y ≡ Enters first_view (record y { objects = with_frame e.function values y.objects })
        unfolding c_steps.start
        starts_by = ap (λ b. if b then Enters first_view (record y { objects = with_frame e.function values y.objects }) else Refused (Faults Disagree)) all_fits

        is_early : IsEarly s number e μ view_at x' first_view (record y { objects = with_frame e.function values y.objects })
        is_early = record {
          now = laid.now;
          both = both_stand laid.now (with_frame e.function values y.objects) laid.grown stands_at_entry framed_many;
          frame = frame_is;
          known = known_at_entry;
          procedures = procedures_at_entry;
        }

        few : (ones : List Saving) → is.savings ≡ ones → length ones + cost costs view_at.at ≤ cost later view_at.at
        unfolding frame_of
        few ones same =
            subst (λ os. length os + cost costs view_at.at ≤ cost later view_at.at) same
            (subst (λ (one : EntryPoint). length is.savings + cost costs (u.begins one.start) ≤ cost later (u.begins one.start)) (sym (ap (λ (f : Frame). f.called) begins.frame)) costed.first)

        -- nothing is kept, or the items of what is kept come first
        matched_by : (ones : List Saving) → is.savings ≡ ones → IsLate (call_couple s number u costs e) (IsEarly s number e) (λ w. cost later w.at) μ view_at x' first_view (record y { objects = with_frame e.function values y.objects })
        matched_by [] none =
            ready (subst (λ ones. IsAtStep s number e μ view_at x' (record first_view { position = length ones }) (record y { objects = with_frame e.function values y.objects })) none
            (at_step laid.now (with_frame e.function values y.objects) (record {
              grown = laid.grown;
              stands = stands_at_entry;
              as_many = framed_many;
              others = laid.others;
              known = known_behind laid.now known_at_entry (λ i one at. no_element i one (ap (λ ones. slice_get ones i) (sym none) ∙ at));
              temporaries = laid.temporaries;
              procedures = procedures_at_entry;
            })))
        matched_by (one ∷ rest) some =
            let saved = saved_from e is.entry.formals is.savings is.bounds at_call v.frame store begins.bindings.names begins.bounds bare are_named fixed laid.now laid.rooms 0 (one ∷ rest)
            (λ i other h. ap (slice_get is.savings) {x = 0 + i} {y = i} (omega arith) ∙ ap (λ ones. slice_get ones i) some ∙ h) in
            let behind = bounds_are_kept laid.now e.writing v.frame store e.function first_view (record y { objects = with_frame e.function values y.objects }) one rest saved.0 stands_at_entry known_at_entry saved.1 in
            early (length (one ∷ rest)) (record first_view { position = length (one ∷ rest) }) (record y { objects = behind.objects }) is_early (does_first one rest saved.0 some saved.1 behind) (few (one ∷ rest) some)
            (subst (λ ones. IsAtStep s number e μ view_at x' (record first_view { position = length ones }) (record y { objects = behind.objects })) some
            (at_step (record laid.now { frozen = behind.frozen }) behind.objects (is_ready one rest saved.0 some saved.1 behind)))

        entered : Opened (entered_couple s number u costs later e) μ (begun u (Enters v x')) y function values
        unfolding begun
        entered = record {
          view = first_view;
          shared = record y { objects = with_frame e.function values y.objects };
          starts = starts_by;
          matched = matched_by is.savings refl;
        }

  module _ (later : List ℕ) (costed : IsCosted u costs later is.entry is.savings) where
    pub opened : (μ : CallWorld) (x : fortran.World) (n : Called) (a : Passed) (y : c.World) (function : ℕ) (values : List CValue) → Extends s.first μ.image → IsFree (s.rooms number) μ.image → CallsAlike s μ x n a y function values
        → (entry : Entry fortran_sorts) → association.start u.facts n a x ≡ entry → Opened (entered_couple s number u costs later e) μ (begun u entry) y function values
    unfolding begun
    opened μ x n a y function values houses free calls (Refused act) h = tt
    opened μ x n a y function values houses free calls (Enters v x') h =
        let begins = procedure_begins u.facts is.entry n a x x' v is.only h in
        entered μ x n a y function values houses free calls x' v begins (laid_by μ x n a y function values houses free calls x' v begins u.facts.program.kind refl) later costed
