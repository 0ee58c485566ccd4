-- The function of a main program simulates its lowered text.
use Rattle.std.specs.Prelude.{◌≡◌, ◌≢◌, ℕ, suc, ◌+◌, ◌≤◌, nat_eq, pos, Bool, true, false, List, [], ◌∷◌, ◌++◌, length, Option, Some, None, Ok, slice_get, slice_set, if◌then◌else◌}
use Rattle.std.proofs.Common.{refl, sym, ap, ◌∙◌, subst, arith}
use Rattle.std.proofs.lemmas.List.{length-set}
use Rattle.std.proofs.lemmas.Option.{slice_get_within}
use Rattle.std.proofs.lemmas.Bool.{eqb-true, eq-eqb}
use Rattle.output_laws.specs.simulation.Machine.{Goes, Ends, Calls, Answers, Breaks, Entry, Enters, Refused}
use Rattle.output_laws.specs.simulation.LocalSimulation.{last, Meets, Opened, Local}
use Rattle.output_laws.specs.f_tree.declared.names.Basic.{Basic}
use Rattle.output_laws.specs.f_tree.Values.{Datum, IsInt, Checked, Gives, given_that}
use Rattle.output_laws.specs.f_tree.Terms.{Function}
use Rattle.output_laws.specs.f_tree.Facts.{EntryPoint, Facts}
use Rattle.output_laws.specs.f_tree.Setting.{IsIn, first_in}
use Rattle.output_laws.specs.f_tree.Valuing.{applied}
use Rattle.output_laws.specs.f_tree.World as fortran
use Rattle.output_laws.specs.f_tree.World.{Called, Passed, fortran_sorts}
use Rattle.output_laws.specs.f_tree.Association as association
use Rattle.c_emit_laws.specs.l_core.Pures.{Pure, Pures, Temporaries, none_kept, with_kept, meant, all_meant}
use Rattle.c_emit_laws.specs.l_core.Steps.{Step, Keep, Put, PutText, PutLabel, Compute, Unless, AgainIf, Skip, Again, Jump, Select, JumpBy, Pass, CallFor, CallSub, Branch, Way, Back, BackBy, Halt, Acts, Text}
use Rattle.c_emit_laws.specs.l_core.Machine.{View, Doing, answering, answer, keeping, done, step, begun}
use Rattle.c_emit_laws.specs.l_core.Machine as lower
use Rattle.c_emit_laws.specs.l_core.Costs.{cost}
use Rattle.output_laws.specs.c_tree.declared.outcome.CValue.{CValue}
use Rattle.output_laws.specs.c_tree.declared.outcome.CValue.TheVariants.{Number}
use Rattle.output_laws.specs.c_tree.declared.outcome.CFault.TheVariants.{Disagree}
use Rattle.output_laws.specs.c_tree.Faults.{Faults}
use Rattle.output_laws.specs.c_tree.Objects as objects_of
use Rattle.output_laws.specs.c_tree.Terms.{Term, Constant}
use Rattle.output_laws.specs.c_tree.Flat as flat
use Rattle.output_laws.specs.c_tree.Flat.{Flat}
use Rattle.output_laws.specs.c_tree.Values as c_values
use Rattle.output_laws.specs.c_tree.World as c
use Rattle.output_laws.specs.c_tree.Steps as c_steps
use Rattle.output_laws.specs.c_tree.Steps.{language, deed, given_by, first_view, with_frame, all_bound, all_fit}
use Rattle.c_emit_laws.proofs.c_laws.StepLaws.{step_at, return_answers}
use Rattle.c_emit_laws.specs.c_image.World.{World, with_held, framed, Extends, IsIdle}
use Rattle.c_emit_laws.proofs.c_image_laws.Growing.{changed_there, changed_elsewhere, extends_through, extends_framed}
use Rattle.c_emit_laws.proofs.c_image_laws.CallsStand.{begins_stand}
use Rattle.c_emit_laws.proofs.c_image_laws.Parameters.{temporary_at}
use Rattle.c_emit_laws.specs.c_emit.Numbers.{Writing, if_number}
use Rattle.c_emit_laws.specs.c_emit.LibraryFunctions.{LibraryFunction, library_type}
use Rattle.c_emit_laws.specs.c_emit.Calls.{computed_item}
use Rattle.c_emit_laws.specs.c_emit.Flats.{assigned, switch_to, returned_by, flat_of}
use Rattle.c_emit_laws.specs.c_emit.Types.{HasType, type_of}
use Rattle.c_emit_laws.specs.EmittedTypes.{AreTyped}
use Rattle.c_emit_laws.proofs.TypeLaws.{types_are_right}
use Rattle.c_emit_laws.specs.EmittedNumbers.{IsKnown}
use Rattle.c_emit_laws.specs.EmittedFlats.{KeepsAlike, CallsLibrary, Steers, by_put, by_label, by_test, by_test_back, by_skip, by_return, by_jump, by_select, by_held, by_branch, by_way, by_pass}
use Rattle.c_emit_laws.proofs.Choices.{got, some_same}
use Rattle.c_emit_laws.proofs.ComputedNumbers.{library_types_are_right}
use Rattle.c_emit_laws.proofs.FlatLaws.{flats_go_on}
use Rattle.c_emit_laws.proofs.KeptLaws.{kept_flats_go_on, computed_flats_go_on}
use Rattle.emitted_texts.specs.SecondLayer.{Room, Surroundings, Emission, IsFree, IsTemporary, IsFrameOf, IsActive, IsAtStep, BothStand, TransfersStand, ArePassed, none_passed, place_passed, procedure_passed, label_passed, ResultIsPassed, lengths_of, CallsAlike, emit_couple}
use Rattle.emitted_texts.specs.Emitted.{leads, kind_behind, stage_behind, IsItem, IsInFrame, IsEmittedMain, MainsAreSimulated}
use Rattle.emitted_texts.proofs.Worlds.{plain_length, framed_length, extends_changed}
use Rattle.emitted_texts.proofs.Begins.{main_begins}
use Rattle.emitted_texts.proofs.Known.{IsBare, known_first, known_later}
use Rattle.emitted_texts.proofs.Transferring.{halted, acted}
use Rattle.emitted_texts.proofs.Steps.{GoesOrBreaks, steering_goes, keeping_goes, steering_shared, steering_plain, steering_leads, steering_kinds, steering_stages, kept_by, output_on}

passed_none : (s : Surroundings) (μ : World) (ds : List Datum) (values : List CValue) → ArePassed s μ ds values → ds ≡ [] → values ≡ []
passed_none s μ _ _ none_passed e = refl
passed_none s μ _ _ (place_passed p object ds values at more) e = absurd (cc)
passed_none s μ _ _ (procedure_passed x number ds values is more) e = absurd (cc)
passed_none s μ _ _ (label_passed label ds values more) e = absurd (cc)

module _ (s : Surroundings) (number : ℕ) (u : Text) (costs : List ℕ) (e : Emission) (is : IsEmittedMain s number u costs e) where
  own_idle : (μ : World) → IsFree (s.rooms number) μ → IsIdle e.function.frame (length e.function.fresh) μ
  own_idle μ free = subst (λ (r : Room). IsIdle r.first r.count μ) is.room free

  not_held : (μ : World) → IsFree (s.rooms number) μ → (k : ℕ) → e.writing.is_number k ≡ true → μ.frozen (e.writing.naming.temporary k) ≡ None
  not_held μ free k numeric =
      let at = is.temporaries k numeric in
      let below = slice_get_within e.function.fresh at.index (objects_of.Bytes at.bytes) at.is in
      ap μ.frozen at.at ∙ (own_idle μ free).not_held (e.function.frame + at.index) (omega arith) (omega (arith, below))

  module _ (μ : World) (v : View) (x : fortran.World) (w : c_steps.View) (y : c.World) (now' : IsAtStep s number e μ v x w y) (st : Step) (at : slice_get u.steps v.at ≡ Some st) (item : IsItem u e v.at st) where
    active : IsActive s number e μ v x y
    active = now'.active

    position : w.position ≡ e.place v.at
    position = now'.position

    here : slice_get e.function.code w.position ≡ Some item.item
    here = ap (slice_get e.function.code) position ∙ item.stands

    done_is : (ev : Doing) → step u v x ≡ ev → done u v x (Some st) ≡ ev
    unfolding step
    done_is ev h = sym (ap (done u v x) at) ∙ h

    -- the types of what the temporaries hold, where none of them has changed
    typed_on : (n : ℕ) (kept : Temporaries) → kept ≡ v.kept → ((k : ℕ) (basic : Basic) → e.writing.kind n k ≡ Some basic → e.writing.kind v.at k ≡ Some basic) → AreTyped e.writing n kept
    typed_on n kept same kinds k d basic holds kind = now'.typed k d basic (sym (ap (λ m. m k) same) ∙ holds) (kinds k basic kind)

    steered : Steers st → (ev : Doing) → step u v x ≡ ev → Meets (emit_couple s number u costs e) μ w y (cost costs v.at) ev
    unfolding GoesOrBreaks
    steered steers (Goes v' x') h =
        let alike = flats_go_on u v v' x x' active.now e.writing e.place e.function w y st item.item is.facts at steers item.emitted position (is.in_order v.at st at) active.both.stands active.known h in
        let shared = steering_shared u v v' x x' st steers (done_is (Goes v' x') h) in
        let led = steering_leads u v v' x x' st steers (done_is (Goes v' x') h) in
        let many = plain_length e.function w (record w { position = e.place v'.at }) y (record y { objects = alike.after.objects }) item.item (steering_plain e.writing e.place u.position v.at st item.item steers item.emitted) alike.after.stored in
        record {
          count = 1;
          view = record w { position = e.place v'.at };
          shared = record y { objects = alike.after.objects };
          does = last (step_at e.function w y item.item here ∙ alike.after.stored) refl;
          few = is.positive v.at st at;
          matched = record {
            position = refl;
            typed = typed_on v'.at v'.kept alike.kept (λ k basic kind. sym (steering_kinds e.writing v.at st k steers) ∙ is.calls.kinds v.at st v'.at at led k basic kind);
            staged = λ unit staged. output_on x x' y (record y { objects = alike.after.objects }) unit shared.transfer shared.units refl refl
                (now'.staged unit (sym (steering_stages (e.stage v.at) st steers) ∙ is.calls.stages v.at st v'.at at led unit staged));
            active = record {
              now = active.now;
              housed = active.housed;
              both = record {
                extends = active.both.extends;
                stands = alike.after.stands;
                units = shared.units ∙ active.both.units;
                transfers = subst (λ t. TransfersStand μ t y.transfer) (sym shared.transfer) active.both.transfers;
                as_many = many ∙ active.both.as_many;
              };
              free = active.free;
              frame = subst (IsFrameOf e.writing.facts.program) (sym alike.frame) active.frame;
              known = subst (λ f. IsKnown active.now e.writing f v'.kept) (sym alike.frame) (subst (λ k. IsKnown active.now e.writing v.frame k) (sym alike.kept) active.known);
              temporaries = active.temporaries;
            };
          };
        }
    steered steers (Breaks act) h = λ claimed. absurd claimed
    steered steers (Ends z v' x') h = absurd (subst GoesOrBreaks (done_is (Ends z v' x') h) (steering_goes u v x st steers))
    steered steers (Calls v' x' n a) h = absurd (subst GoesOrBreaks (done_is (Calls v' x' n a) h) (steering_goes u v x st steers))
    steered steers (Answers x' d) h = absurd (subst GoesOrBreaks (done_is (Answers x' d) h) (steering_goes u v x st steers))

    -- a temporary is there for each number, also behind a step that keeps one
    kept_there : (k : ℕ) (bytes : List (Option ℕ)) → 4 ≤ length bytes → e.writing.is_number k ≡ true → (j : ℕ) → e.writing.is_number j ≡ true
        → IsTemporary (with_held active.now (e.writing.naming.temporary k) (Some (objects_of.Bytes bytes))) (e.writing.naming.temporary j)
    kept_there k bytes room numeric j other = by (nat_eq j k) refl
      where
        by : (b : Bool) → nat_eq j k ≡ b → IsTemporary (with_held active.now (e.writing.naming.temporary k) (Some (objects_of.Bytes bytes))) (e.writing.naming.temporary j)
        by true same =
            let is_it : j ≡ k = eqb-true j k same in
            subst (λ i. IsTemporary (with_held active.now (e.writing.naming.temporary k) (Some (objects_of.Bytes bytes))) (e.writing.naming.temporary i)) (sym is_it) (record {
              bytes = bytes;
              holds = changed_there active.now.frozen (e.writing.naming.temporary k) (Some (objects_of.Bytes bytes));
              room = room;
              homeless = (active.temporaries k numeric).homeless;
            })
        by false apart =
            let old = active.temporaries j other in
            let differs : e.writing.naming.temporary j ≢ e.writing.naming.temporary k = λ same. not_equal j k apart ((is.apart k numeric).temporaries j same) in
            record {
              bytes = old.bytes;
              holds = changed_elsewhere active.now.frozen (e.writing.naming.temporary k) (e.writing.naming.temporary j) (Some (objects_of.Bytes bytes)) differs ∙ old.holds;
              room = old.room;
              homeless = old.homeless;
            }
          where
            not_equal : (j k : ℕ) → nat_eq j k ≡ false → j ≡ k → ⊥
            not_equal j k apart same = absurd (cc (apart, eq-eqb j k same))

    -- what is kept has the type that is said
    typed_behind : (b : Bool) (j k : ℕ) (type : Option Basic) (value d : Datum) (basic : Basic) → nat_eq j k ≡ b → (if b then Some value else v.kept j) ≡ Some d → (if b then type else e.writing.kind v.at j) ≡ Some basic
        → (type ≡ Some basic → HasType basic value) → HasType basic d
    typed_behind true j k type value d basic same holds kind typed = subst (HasType basic) (some_same value d holds) (typed kind)
    typed_behind false j k type value d basic same holds kind typed = now'.typed j d basic holds kind

    -- a step that keeps a value of a type, where its item keeps it too
    keeps_on : (k : ℕ) (r : Checked Datum) (type : Option Basic) (numeric : e.writing.is_number k ≡ true) → done u v x (Some st) ≡ keeping k v x r → leads u v.at st ≡ suc v.at ∷ []
        → ((j : ℕ) → kind_behind e.writing v.at st j ≡ (if nat_eq j k then type else e.writing.kind v.at j)) → stage_behind (e.stage v.at) st ≡ e.stage v.at
        → ((value : Datum) (basic : Basic) → r ≡ Gives value → type ≡ Some basic → HasType basic value)
        → ((v' : View) (x' : fortran.World) → step u v x ≡ Goes v' x' → KeepsAlike active.now v v' x x' e.writing k (length (active.temporaries k numeric).bytes) e.place e.function w y item.item)
        → (ev : Doing) → step u v x ≡ ev → Meets (emit_couple s number u costs e) μ w y (cost costs v.at) ev
    unfolding GoesOrBreaks with_kept
    keeps_on k r type numeric keep leading kinds stages types alikes (Goes v' x') h =
        let mine = active.temporaries k numeric in
        let alike = alikes v' x' h in
        let kept = kept_by k v v' x x' r (sym keep ∙ done_is (Goes v' x') h) in
        let led : IsIn v'.at (leads u v.at st) = subst (IsIn v'.at) (sym leading) (subst (λ n. IsIn n (suc v.at ∷ [])) (sym kept.at) first_in) in
        let room : 4 ≤ length alike.bytes = subst (λ n. 4 ≤ n) (sym alike.same_size) mine.room in
        record {
          count = 1;
          view = record w { position = e.place v'.at; wants = alike.wants };
          shared = record y { objects = slice_set y.objects (e.writing.naming.temporary k) (objects_of.Bytes alike.bytes) };
          does = last (step_at e.function w y item.item here ∙ alike.goes) refl;
          few = is.positive v.at st at;
          matched = record {
            position = refl;
            typed = λ j d basic holds kind. typed_behind (nat_eq j k) j k type kept.value d basic refl (sym (ap (λ m. m j) kept.kept) ∙ holds) (sym (kinds j) ∙ is.calls.kinds v.at st v'.at at led j basic kind) (types kept.value basic kept.gives);
            staged = λ unit staged. output_on x x' y (record y { objects = slice_set y.objects (e.writing.naming.temporary k) (objects_of.Bytes alike.bytes) }) unit
                (ap (λ (z : fortran.World). z.transfer) alike.same) (ap (λ (z : fortran.World). z.units) alike.same) refl refl
                (now'.staged unit (sym stages ∙ is.calls.stages v.at st v'.at at led unit staged));
            active = record {
              now = with_held active.now (e.writing.naming.temporary k) (Some (objects_of.Bytes alike.bytes));
              housed = active.housed;
              both = record {
                extends = extends_changed μ active.now (e.writing.naming.temporary k) (Some (objects_of.Bytes alike.bytes)) active.both.extends (not_held μ active.free k numeric);
                stands = alike.stands;
                units = ap (λ (z : fortran.World). z.units) alike.same ∙ active.both.units;
                transfers = subst (λ t. TransfersStand μ t y.transfer) (sym (ap (λ (z : fortran.World). z.transfer) alike.same)) active.both.transfers;
                as_many = length-set y.objects (e.writing.naming.temporary k) (objects_of.Bytes alike.bytes) ∙ active.both.as_many;
              };
              free = active.free;
              frame = subst (IsFrameOf e.writing.facts.program) (sym alike.frame) active.frame;
              known = alike.known;
              temporaries = kept_there k alike.bytes room numeric;
            };
          };
        }
    keeps_on k r type numeric keep leading kinds stages types alikes (Breaks act) h = λ claimed. absurd claimed
    keeps_on k r type numeric keep leading kinds stages types alikes (Ends z v' x') h = absurd (subst GoesOrBreaks (sym keep ∙ done_is (Ends z v' x') h) (keeping_goes k v x r))
    keeps_on k r type numeric keep leading kinds stages types alikes (Calls v' x' n a) h = absurd (subst GoesOrBreaks (sym keep ∙ done_is (Calls v' x' n a) h) (keeping_goes k v x r))
    keeps_on k r type numeric keep leading kinds stages types alikes (Answers x' d) h = absurd (subst GoesOrBreaks (sym keep ∙ done_is (Answers x' d) h) (keeping_goes k v x r))

    keeps : (k : ℕ) (p : Pure) → st ≡ Keep k p → e.writing.is_number k ≡ true → Meets (emit_couple s number u costs e) μ w y (cost costs v.at) (step u v x)
    unfolding done leads stage_behind kind_behind
    keeps k p keep numeric =
        let there : slice_get u.steps v.at ≡ Some (Keep k p) = at ∙ ap Some keep in
        let emitted : flat_of e.writing e.place u.position v.at (Keep k p) ≡ Some item.item = ap (flat_of e.writing e.place u.position v.at) (sym keep) ∙ item.emitted in
        let mine = active.temporaries k numeric in
        keeps_on k (meant u.facts v.frame v.kept x.store p) (type_of e.writing v.at p) numeric (ap (λ o. done u v x (Some o)) keep) (ap (leads u v.at) keep) (λ j. ap (λ o. kind_behind e.writing v.at o j) keep) (ap (stage_behind (e.stage v.at)) keep)
        (λ value basic gives typed. types_are_right e.writing v.at v.frame v.kept x.store p value basic active.known.types now'.typed typed (ap (λ f. meant f v.frame v.kept x.store p) is.facts ∙ gives))
        (λ v' x' h. kept_flats_go_on u v v' x x' active.now e.writing e.place e.function w y k mine.bytes p item.item is.facts there emitted position (is.in_order v.at st at) active.both.stands active.known mine.holds mine.room mine.homeless
        (is.apart k numeric) h)
        (step u v x) refl

    -- what is called of the library is there, and the constants are held now
    calls_library : CallsLibrary active.now e.writing.library e.function
    calls_library = record {
      own = is.calls.own;
      constants = λ z has.
          let held = is.calls.constants z has in
          record { bytes = held.bytes; is = active.both.extends.frozen _ (objects_of.Bytes held.bytes) (active.housed.frozen _ (objects_of.Bytes held.bytes) held.is); begins = held.begins };
    }

    computes : (k : ℕ) (f : Function) (ps : Pures) → st ≡ Compute k f ps → e.writing.is_number k ≡ true → Meets (emit_couple s number u costs e) μ w y (cost costs v.at) (step u v x)
    unfolding done leads stage_behind kind_behind
    computes k f ps compute numeric =
        let there : slice_get u.steps v.at ≡ Some (Compute k f ps) = at ∙ ap Some compute in
        let emitted : flat_of e.writing e.place u.position v.at (Compute k f ps) ≡ Some item.item = ap (flat_of e.writing e.place u.position v.at) (sym compute) ∙ item.emitted in
        let mine = active.temporaries k numeric in
        keeps_on k (given_that (all_meant u.facts v.frame v.kept x.store ps) (applied f)) (library_type f) numeric (ap (λ o. done u v x (Some o)) compute) (ap (leads u v.at) compute) (λ j. ap (λ o. kind_behind e.writing v.at o j) compute)
        (ap (stage_behind (e.stage v.at)) compute)
        (λ value basic gives typed. let values = got (all_meant u.facts v.frame v.kept x.store ps) (applied f) value gives in library_types_are_right f values.value value basic typed values.gives)
        (λ v' x' h. computed_flats_go_on u v v' x x' active.now e.writing e.place e.function w y k mine.bytes f ps item.item is.facts there emitted position (is.in_order v.at st at) active.both.stands active.known calls_library mine.holds mine.room
        mine.homeless (is.apart k numeric) h)
        (step u v x) refl

    -- the end of the main program
    answers : st ≡ Back → Meets (emit_couple s number u costs e) μ w y (cost costs v.at) (step u v x)
    unfolding done answering answer flat_of returned_by c_values.seen
    answers back =
        let event : step u v x ≡ Answers x (IsInt (pos 0)) = sym (done_is (step u v x) refl) ∙ ap (λ o. done u v x (Some o)) back ∙ ap (λ k. answering (answer k v.frame x (pos 0))) is.kind in
        let main : returned_by e.writing.facts.program.kind ≡ Some (flat.Return (Some (Constant (pos 0)))) = ap (λ k. returned_by k) (ap (λ f. f.program.kind) is.facts ∙ is.kind) in
        let returned : flat.Return (Some (Constant (pos 0))) ≡ item.item =
        some_same (flat.Return (Some (Constant (pos 0)))) item.item (sym main ∙ ap (flat_of e.writing e.place u.position v.at) (sym back) ∙ item.emitted) in
        let gives : given_by e.function.result (Number (pos 0)) ≡ Ok (Some (pos 0)) = ap (λ r. given_by r (Number (pos 0))) is.result in
        let does : deed e.function w y item.item ≡ Answers y (Some (pos 0)) =
        subst (λ i. deed e.function w y i ≡ Answers y (Some (pos 0))) returned (return_answers e.function w y (Constant (pos 0)) (Number (pos 0)) (Some (pos 0)) refl gives) in
        subst (Meets (emit_couple s number u costs e) μ w y (cost costs v.at)) (sym event) (record {
          count = 1;
          shared = y;
          ans = Some (pos 0);
          does = last (step_at e.function w y item.item here ∙ does) refl;
          few = is.positive v.at st at;
          given = record { now = active.now; both = active.both; answers = refl };
        })

  numeric_by : (holds : Bool) (target value : Option Term) (item : Flat) → assigned (if_number holds target) value ≡ Some item → holds ≡ true
  unfolding assigned if_number
  numeric_by true target value item emitted = refl
  numeric_by false target value item emitted = absurd (cc)

  computed_number : (w : Writing) (holds : Bool) (target : Option Term) (o : Option LibraryFunction) (terms : Option (List Term)) (item : Flat) → computed_item w (if_number holds target) o terms ≡ Some item → holds ≡ true
  unfolding computed_item if_number
  computed_number w true target o terms item emitted = refl
  computed_number w false target o terms item emitted = absurd (cc)

  none_emitted : {A : Type 0} (item : Flat) → None ≡ Some item → A
  none_emitted item emitted = absurd (cc)

  each : (μ : World) (v : View) (x : fortran.World) (w : c_steps.View) (y : c.World) → IsAtStep s number e μ v x w y → (st : Step) → slice_get u.steps v.at ≡ Some st → IsItem u e v.at st
      → Meets (emit_couple s number u costs e) μ w y (cost costs v.at) (step u v x)
  unfolding flat_of switch_to
  each μ v x w y now' (Put place p) at item = steered μ v x w y now' (Put place p) at item (by_put place p) (step u v x) refl
  each μ v x w y now' (PutLabel place label) at item = steered μ v x w y now' (PutLabel place label) at item (by_label place label) (step u v x) refl
  each μ v x w y now' (Unless p n) at item = steered μ v x w y now' (Unless p n) at item (by_test p n) (step u v x) refl
  each μ v x w y now' (AgainIf p n) at item = steered μ v x w y now' (AgainIf p n) at item (by_test_back p n) (step u v x) refl
  each μ v x w y now' (Skip n) at item = steered μ v x w y now' (Skip n) at item (by_skip n) (step u v x) refl
  each μ v x w y now' (Again n) at item = steered μ v x w y now' (Again n) at item (by_return n) (step u v x) refl
  each μ v x w y now' (Jump label) at item = steered μ v x w y now' (Jump label) at item (by_jump label) (step u v x) refl
  each μ v x w y now' (Select p count) at item = steered μ v x w y now' (Select p count) at item (by_select p count) (step u v x) refl
  each μ v x w y now' (JumpBy p labels) at item = steered μ v x w y now' (JumpBy p labels) at item (by_held p labels) (step u v x) refl
  each μ v x w y now' (Branch k count) at item = steered μ v x w y now' (Branch k count) at item (by_branch k count) (step u v x) refl
  each μ v x w y now' (Way label) at item = steered μ v x w y now' (Way label) at item (by_way label) (step u v x) refl
  each μ v x w y now' Pass at item = steered μ v x w y now' Pass at item by_pass (step u v x) refl
  each μ v x w y now' (Keep k p) at item =
      keeps μ v x w y now' (Keep k p) at item k p refl (numeric_by (e.writing.is_number k) _ _ item.item item.emitted)
  each μ v x w y now' Back at item = answers μ v x w y now' Back at item refl
  each μ v x w y now' (PutText place ps) at item = none_emitted item.item item.emitted
  each μ v x w y now' (Compute k f ps) at item = computes μ v x w y now' (Compute k f ps) at item k f ps refl (computed_number e.writing (e.writing.is_number k) _ _ _ item.item item.emitted)
  each μ v x w y now' (CallFor k callee ps) at item = none_emitted item.item item.emitted
  each μ v x w y now' (CallSub k name ps) at item = none_emitted item.item item.emitted
  each μ v x w y now' (BackBy p) at item = none_emitted item.item item.emitted
  each μ v x w y now' (Halt text) at item = halted s number u costs e is μ v x w y now' (Halt text) at item text refl (sym (some_same _ item.item item.emitted))
  each μ v x w y now' (Acts act ps n) at item = acted s number u costs e is μ v x w y now' (Acts act ps n) at item act ps n refl item.emitted

  follows : (μ : World) (v : View) (x : fortran.World) (w : c_steps.View) (y : c.World) → IsAtStep s number e μ v x w y → (found : Option Step) → slice_get u.steps v.at ≡ found
      → Meets (emit_couple s number u costs e) μ w y (cost costs v.at) (step u v x)
  unfolding step done
  follows μ v x w y now' None at = subst (λ o. Meets (emit_couple s number u costs e) μ w y (cost costs v.at) (done u v x o)) (sym at) (λ claimed. absurd claimed)
  follows μ v x w y now' (Some st) at = each μ v x w y now' st at (is.items v.at st at)

  -- ## The begin

  opened : (μ : World) (x : fortran.World) (n : Called) (a : Passed) (y : c.World) (n' : ℕ) (values : List CValue) → Extends s.first μ → IsFree (s.rooms number) μ → CallsAlike s μ x n a y n' values
      → (entry : Entry fortran_sorts) → association.start u.facts n a x ≡ entry → Opened (emit_couple s number u costs e) μ (begun u entry) y n' values
  unfolding begun c_steps.start
  opened μ x n a y n' values houses free calls (Refused act) h = tt
  opened μ x n a y n' values houses free calls (Enters v x') h =
      let begins = main_begins u.facts is.entry n a x x' v is.kind is.only is.no_dummies is.at_first h in
      let result : calls.result ≡ [] = subst (λ r. ResultIsPassed μ r calls.result) (calls.none begins.want) calls.result_passed in
      let arguments : calls.arguments ≡ [] = passed_none s μ a.actuals calls.arguments calls.are_passed begins.actuals in
      let nothing : values ≡ [] = calls.values_are ∙ (λ i. result i ++ arguments i ++ lengths_of (begins.actuals i)) in
      let fits : all_fit e.function.parameters values ≡ true = (λ i. all_fit (is.parameters i) (nothing i)) in
      let idle = own_idle μ free in
      let room : e.function.frame + length e.function.fresh ≤ length y.objects = subst (λ n. e.function.frame + length e.function.fresh ≤ n) (sym calls.both.as_many) is.inside in
      let now = framed e.function.frame (all_bound [] e.function.fresh) μ in
      let grown : Extends μ now = extends_framed μ e.function.frame (all_bound [] e.function.fresh) idle in
      let bare : IsBare v.frame = record { bound = begins.bound; lengths = begins.lengths; dimensions = begins.dimensions; result = begins.result } in
      record {
        view = first_view;
        shared = record y { objects = with_frame e.function [] y.objects };
        starts = ap (λ b. if b then Enters first_view (record y { objects = with_frame e.function values y.objects }) else Refused (Faults Disagree)) fits
            ∙ ap (λ vs. Enters first_view (record y { objects = with_frame e.function vs y.objects })) nothing;
        matched = record {
          position = sym (ap (λ n. e.place (u.begins n)) begins.start ∙ is.begins);
          typed = λ k d basic holds kind. nothing_kept d holds;
          staged = λ unit staged. nothing_kept unit (sym (ap (λ n. e.stage (u.begins n)) begins.start ∙ is.calls.none_at_first) ∙ staged);
          active = record {
            now = now;
            housed = houses;
            both = subst (λ z. BothStand s μ now z (record y { objects = with_frame e.function [] y.objects })) (sym begins.world) (record {
              extends = grown;
              stands = begins_stand μ x.store y.objects e.function [] calls.both.stands idle room;
              units = calls.both.units;
              transfers = calls.both.transfers;
              as_many = framed_length e.function y.objects room ∙ calls.both.as_many;
            });
            free = free;
            frame = record {
              called = subst (λ (en : EntryPoint). IsIn en e.writing.facts.program.entries) (sym begins.called) (subst (IsIn is.entry) (sym (ap (λ (f : Facts). f.program.entries) is.facts ∙ is.only)) first_in);
              no_result = λ none. begins.result;
            };
            known = known_later s.first now e.writing v.frame none_kept (extends_through s.first μ now houses grown) (known_first s number u costs e is v.frame bare);
            temporaries = λ k numeric. in_frame μ idle k (is.temporaries k numeric);
          };
        };
      }
    where
      nothing_kept : {A B : Type 0} (a : A) → None ≡ Some a → B
      nothing_kept a h = absurd (cc)

      in_frame : (μ : World) → IsIdle e.function.frame (length e.function.fresh) μ → (k : ℕ) → IsInFrame e (e.writing.naming.temporary k)
          → IsTemporary (framed e.function.frame (all_bound [] e.function.fresh) μ) (e.writing.naming.temporary k)
      in_frame μ idle k at =
          let below = slice_get_within e.function.fresh at.index (objects_of.Bytes at.bytes) at.is in
          record {
            bytes = at.bytes;
            holds = ap (framed e.function.frame (all_bound [] e.function.fresh) μ).frozen at.at ∙ temporary_at μ e.function.frame at.index [] e.function.fresh (objects_of.Bytes at.bytes) (omega arith) at.is;
            room = at.room;
            homeless = λ n low home. idle.no_home n (e.writing.naming.temporary k) low home (omega (arith, at.at)) (omega (arith, at.at, below));
          }

  pub simulates : Local (emit_couple s number u costs e)
  unfolding lower.start
  simulates = record {
    starts = λ μ x n a y n' values houses idle calls. opened μ x n a y n' values houses idle calls (association.start u.facts n a x) refl;
    refuses = λ n a x act h claimed. claimed;
    follows = λ μ v x w y matched. follows μ v x w y matched (slice_get u.steps v.at) refl;
  }

pub mains_are_simulated : MainsAreSimulated
mains_are_simulated s number u costs e is = simulates s number u costs e is
