-- What the function of a procedure does for steps that neither call nor answer nor end anything.
use Rattle.std.specs.Prelude.{◌≡◌, ◌≢◌, ℕ, suc, ◌+◌, ◌-◌, ◌≤◌, nat_eq, ℤ, Bool, true, false, List, [], ◌∷◌, length, Option, Some, None, slice_get, slice_set, if◌then◌else◌}
use Rattle.std.proofs.Common.{refl, sym, ap, ◌∙◌, subst, arith}
use Rattle.std.proofs.lemmas.List.{length-set}
use Rattle.std.proofs.lemmas.Option.{slice_get_within}
use Rattle.std.proofs.lemmas.Bool.{eqb-true, eq-eqb}
use Rattle.procedure_emission.specs.simulation.Machine.{Goes, Ends, Calls, Answers, Breaks}
use Rattle.procedure_emission.specs.simulation.LocalSimulation.{last, Meets}
use Rattle.procedure_emission.specs.f_tree.declared.names.Basic.{Basic}
use Rattle.procedure_emission.specs.f_tree.Values.{Datum, IsInt, IsLog, IsText, IsSpot, IsProc, IsLabel, Nothing, Checked, Gives, Fails, given_that}
use Rattle.procedure_emission.specs.f_tree.Terms.{Function}
use Rattle.procedure_emission.specs.f_tree.Valuing.{applied}
use Rattle.procedure_emission.specs.f_tree.Store.{Store}
use Rattle.procedure_emission.specs.f_tree.Facts.{Frame}
use Rattle.procedure_emission.specs.f_tree.Setting.{IsIn, first_in}
use Rattle.procedure_emission.specs.f_tree.World as fortran
use Rattle.procedure_emission.specs.l_core.Pures.{Pure, Pures, Temporaries, with_kept, meant, all_meant}
use Rattle.procedure_emission.specs.l_core.Steps.{Step, Keep, Compute, Text}
use Rattle.procedure_emission.specs.l_core.Machine.{View, Doing, onward, past, to, to_place, jump, passed_before, keeping, storing, testing, done, step}
use Rattle.procedure_emission.specs.l_core.Costs.{cost}
use Rattle.procedure_emission.specs.c_tree.Objects as objects_of
use Rattle.procedure_emission.specs.c_tree.World as c
use Rattle.procedure_emission.specs.c_tree.Steps as c_steps
use Rattle.procedure_emission.proofs.c_laws.StepLaws.{step_at}
use Rattle.procedure_emission.specs.c_image.World.{World, with_held, IsIdle}
use Rattle.procedure_emission.specs.c_image.Standing.{Stands}
use Rattle.procedure_emission.proofs.c_image_laws.Growing.{changed_there, changed_elsewhere}
use Rattle.procedure_emission.proofs.c_image_laws.IdleFrames.{idle_beside_object}
use Rattle.procedure_emission.specs.c_tree.Access.{ToNumber}
use Rattle.procedure_emission.specs.c_tree.Terms.{Variable}
use Rattle.procedure_emission.specs.c_emit.Numbers.{Writing, if_number, value_term}
use Rattle.procedure_emission.specs.c_emit.LibraryFunctions.{library_function, library_type}
use Rattle.procedure_emission.specs.c_emit.Calls.{held_terms}
use Rattle.procedure_emission.specs.c_emit.Flats.{flat_of}
use Rattle.procedure_emission.specs.c_emit.Types.{HasType, type_of}
use Rattle.procedure_emission.specs.c_emit_laws.EmittedNumbers.{IsKnown}
use Rattle.procedure_emission.specs.c_emit_laws.EmittedTypes.{AreTyped}
use Rattle.procedure_emission.specs.c_emit_laws.EmittedFlats.{KeepsAlike, CallsLibrary, Steers, by_put, by_label, by_test, by_test_back, by_skip, by_return, by_jump, by_select, by_held, by_branch, by_way, by_pass}
use Rattle.procedure_emission.proofs.c_emit_laws.Choices.{got, some_same}
use Rattle.procedure_emission.proofs.c_emit_laws.ComputedNumbers.{computed_by, integers_of, library_types_are_right}
use Rattle.procedure_emission.proofs.c_emit_laws.LabelLaws.{held_by}
use Rattle.procedure_emission.proofs.c_emit_laws.FlatLaws.{to_by, selected_by, assigned_by, flats_go_on}
use Rattle.procedure_emission.proofs.c_emit_laws.KeptLaws.{called_by, kept_flats_go_on, computed_flats_go_on}
use Rattle.procedure_emission.proofs.c_emit_laws.TypeLaws.{types_are_right}
use Rattle.procedure_emission.specs.emitted_texts.SecondLayer.{Room, Surroundings, Emission, IsFree, IsTemporary, TransfersStand}
use Rattle.procedure_emission.specs.emitted_texts.Emitted.{leads, stage_behind}
use Rattle.procedure_emission.proofs.emitted_texts.Worlds.{plain_length, extends_changed}
use Rattle.procedure_emission.proofs.emitted_texts.Steps.{GoesOrBreaks, steering_goes, keeping_goes, steering_shared, steering_plain, steering_leads, steering_stages, kept_by, output_on}
use Rattle.procedure_emission.specs.Reading.{IsPlain, kind_after, numbers_kept}
use Rattle.procedure_emission.specs.CallLayer.{CallWorld, IsFrameOf, AreProceduresHeld, IsActive, IsStaged, IsAtStep, call_couple}
use Rattle.procedure_emission.specs.DummyBounds.{IsMadeAnew}
use Rattle.procedure_emission.specs.EmittedUnits.{leads_on, IsItem, IsOfRoom, IsEmittedUnit}
use Rattle.emitted_procedures.proofs.KeptNumbers.{whole_number, numbers_behind}
use Rattle.emitted_procedures.proofs.ReadNumbers.{typed_plain, typed_read, value_read, integers_held}
use Rattle.emitted_procedures.proofs.StepsOverNumbers.{same_done}
use Rattle.emitted_procedures.proofs.Passing.{IsFar}

-- none of these steps keeps a value, and they lead where they are said to
steering_kinds : (w : Writing) (n : ℕ) (st : Step) (k : ℕ) → Steers st → kind_after w n st k ≡ w.kind n k
unfolding kind_after
steering_kinds w n _ k (by_put place p) = refl
steering_kinds w n _ k (by_label place label) = refl
steering_kinds w n _ k (by_test p m) = refl
steering_kinds w n _ k (by_test_back p m) = refl
steering_kinds w n _ k (by_skip m) = refl
steering_kinds w n _ k (by_return m) = refl
steering_kinds w n _ k (by_jump label) = refl
steering_kinds w n _ k (by_select p count) = refl
steering_kinds w n _ k (by_held place labels) = refl
steering_kinds w n _ k (by_branch j count) = refl
steering_kinds w n _ k (by_way label) = refl
steering_kinds w n _ k by_pass = refl

steering_on : (u : Text) (n : ℕ) (st : Step) → Steers st → leads_on u n st ≡ leads u n st
unfolding leads_on
steering_on u n _ (by_put place p) = refl
steering_on u n _ (by_label place label) = refl
steering_on u n _ (by_test p m) = refl
steering_on u n _ (by_test_back p m) = refl
steering_on u n _ (by_skip m) = refl
steering_on u n _ (by_return m) = refl
steering_on u n _ (by_jump label) = refl
steering_on u n _ (by_select p count) = refl
steering_on u n _ (by_held place labels) = refl
steering_on u n _ (by_branch k count) = refl
steering_on u n _ (by_way label) = refl
steering_on u n _ by_pass = refl

-- the transfer is as it was
pub staged_on : (μ : CallWorld) (x x' : fortran.World) (y y' : c.World) (stage : Option ℤ) → x'.transfer ≡ x.transfer → x'.units ≡ x.units → y'.transfer ≡ y.transfer → y'.units ≡ y.units → IsStaged μ x y stage → IsStaged μ x' y' stage
staged_on μ x x' y y' None one units other units' staged = (one ∙ staged.0, other ∙ staged.1)
staged_on μ x x' y y' (Some unit) one units other units' staged = (output_on x x' y y' unit one units other units' staged.0, staged.1, staged.2)

-- the temporaries are as they were
storing_keeps : (v v' : View) (x x' : fortran.World) (r : Checked Store) → storing v x r ≡ Goes v' x' → v'.kept ≡ v.kept
unfolding storing onward
storing_keeps v v' x x' (Gives s) e = ap (λ (z : View). z.kept) (to_by (suc v.at) v (record x { store = s }) v' x' e).view
storing_keeps v v' x x' (Fails act) e = absurd (cc)

testing_keeps : (on off : ℕ) (v v' : View) (x x' : fortran.World) (r : Checked Datum) → testing on off v x r ≡ Goes v' x' → v'.kept ≡ v.kept
unfolding testing
testing_keeps on off v v' x x' (Gives (IsLog true)) e = ap (λ (z : View). z.kept) (to_by on v x v' x' e).view
testing_keeps on off v v' x x' (Gives (IsLog false)) e = ap (λ (z : View). z.kept) (to_by off v x v' x' e).view
testing_keeps on off v v' x x' (Gives (IsInt z)) e = absurd (cc)
testing_keeps on off v v' x x' (Gives (IsText cs)) e = absurd (cc)
testing_keeps on off v v' x x' (Gives (IsSpot p)) e = absurd (cc)
testing_keeps on off v v' x x' (Gives (IsProc y)) e = absurd (cc)
testing_keeps on off v v' x x' (Gives (IsLabel l)) e = absurd (cc)
testing_keeps on off v v' x x' (Gives Nothing) e = absurd (cc)
testing_keeps on off v v' x x' (Fails act) e = absurd (cc)

placing_keeps : (v v' : View) (x x' : fortran.World) (r : Option ℕ) → to_place r v x ≡ Goes v' x' → v'.kept ≡ v.kept
unfolding to_place
placing_keeps v v' x x' (Some n) e = ap (λ (z : View). z.kept) (to_by n v x v' x' e).view
placing_keeps v v' x x' None e = absurd (cc)

steering_keeps : (u : Text) (v v' : View) (x x' : fortran.World) (st : Step) → Steers st → done u v x (Some st) ≡ Goes v' x' → v'.kept ≡ v.kept
unfolding done past onward jump
steering_keeps u v v' x x' _ (by_put place p) e = storing_keeps v v' x x' _ e
steering_keeps u v v' x x' _ (by_label place label) e = storing_keeps v v' x x' _ e
steering_keeps u v v' x x' _ (by_test p n) e = testing_keeps (suc v.at) (suc v.at + n) v v' x x' _ e
steering_keeps u v v' x x' _ (by_test_back p n) e = testing_keeps (v.at - n) (suc v.at) v v' x x' _ e
steering_keeps u v v' x x' _ (by_skip n) e = ap (λ (z : View). z.kept) (to_by (suc v.at + n) v x v' x' e).view
steering_keeps u v v' x x' _ (by_return n) e = ap (λ (z : View). z.kept) (to_by (v.at - n) v x v' x' e).view
steering_keeps u v v' x x' _ (by_jump label) e = placing_keeps v v' x x' (u.position label) e
steering_keeps u v v' x x' _ (by_select p count) e = ap (λ (z : View). z.kept) (selected_by count v x v' x' _ e).goes.view
steering_keeps u v v' x x' _ (by_held place labels) e =
    let is = held_by u labels v x v' x' _ e in ap (λ (z : View). z.kept) (to_by (suc v.at + passed_before labels is.label) v x v' x' is.goes).view
steering_keeps u v v' x x' _ (by_branch k count) e = ap (λ (z : View). z.kept) (selected_by count v x v' x' _ e).goes.view
steering_keeps u v v' x x' _ (by_way label) e = placing_keeps v v' x x' (u.position label) e
steering_keeps u v v' x x' _ by_pass e = ap (λ (z : View). z.kept) (to_by (suc v.at) v x v' x' e).view

kept_itself : (k : ℕ) (d : Datum) (m : Temporaries) → with_kept k d m k ≡ Some d
unfolding with_kept
kept_itself k d m = ap (λ b. if b then Some d else m k) (eq-eqb k k refl)

-- what is computed of the same values
same_applied : (r : Checked (List Datum)) (ds : List Datum) (f : Function) (d : Datum) → r ≡ Gives ds → applied f ds ≡ Gives d → given_that r (applied f) ≡ Gives d
unfolding given_that
same_applied r ds f d is gives = ap (λ x. given_that x (applied f)) is ∙ gives

goes_view : (a b : View) (x y : fortran.World) (ev : Doing) → ev ≡ Goes a x → ev ≡ Goes b y → a ≡ b
goes_view a b x y ev one other = let both : Goes a x ≡ Goes b y = sym one ∙ other in cc

goes_world : (a b : View) (x y : fortran.World) (ev : Doing) → ev ≡ Goes a x → ev ≡ Goes b y → y ≡ x
goes_world a b x y ev one other = let both : Goes a x ≡ Goes b y = sym one ∙ other in cc

module _ (s : Surroundings) (number : ℕ) (u : Text) (costs : List ℕ) (e : Emission) (is : IsEmittedUnit s number u costs e) where
  -- ## The frame of the function

  pub own_idle : (μ : World) → IsFree (s.rooms number) μ → IsIdle e.function.frame (length e.function.fresh) μ
  own_idle μ free = subst (λ (r : Room). IsIdle r.first r.count μ) is.room free

  pub of_own_room : (object : ℕ) → IsMadeAnew e object → IsOfRoom (s.rooms number) object
  of_own_room object made =
      let at = made.in_frame in
      let below = slice_get_within e.function.fresh at.index (objects_of.Bytes at.bytes) at.is in
      let is_at = at.at in
      subst (λ (r : Room). IsOfRoom r object) (sym is.room) (omega (arith, is_at), omega (arith, is_at, below))

  pub made_far : (object : ℕ) → IsMadeAnew e object → IsFar s number object
  made_far object made j apart low high = is.apart_rooms.rooms j object apart (low, high) (of_own_room object made)

  pub not_held_yet : (μ : World) → IsFree (s.rooms number) μ → (object : ℕ) → IsMadeAnew e object → μ.frozen object ≡ None
  not_held_yet μ free object made = let own = of_own_room object made in free.not_held object own.0 own.1

  module _ (μ : CallWorld) (v : View) (x : fortran.World) (w : c_steps.View) (y : c.World) (now' : IsAtStep s number e μ v x w y) (st : Step) (at : slice_get u.steps v.at ≡ Some st) (item : IsItem s u e v.at st) where
    active : IsActive s number e μ v x y
    active = now'.active

    position : w.position ≡ e.place v.at
    position = now'.position

    here : slice_get e.function.code w.position ≡ Some item.item
    here = ap (slice_get e.function.code) position ∙ item.stands

    pub done_is : (ev : Doing) → step u v x ≡ ev → done u v x (Some st) ≡ ev
    unfolding step
    done_is ev h = sym (ap (done u v x) at) ∙ h

    -- the step over the numbers that are kept
    step_over : (ev : Doing) → done u (record v { kept = numbers_kept v.kept }) x (Some st) ≡ ev → step u (record v { kept = numbers_kept v.kept }) x ≡ ev
    unfolding step
    step_over ev h = ap (done u (record v { kept = numbers_kept v.kept }) x) at ∙ h

    -- the types of what the temporaries hold, where none of them has changed
    pub typed_on : (n : ℕ) (kept : Temporaries) → kept ≡ v.kept → ((k : ℕ) (basic : Basic) → e.writing.kind n k ≡ Some basic → e.writing.kind v.at k ≡ Some basic) → AreTyped e.writing n kept
    typed_on n kept same kinds k d basic holds kind = now'.typed k d basic (sym (ap (λ m. m k) same) ∙ holds) (kinds k basic kind)

    pub steered : Steers st → flat_of e.writing e.place u.position v.at st ≡ Some item.item → (ev : Doing) → step u v x ≡ ev → Meets (call_couple s number u costs e) μ w y (cost costs v.at) ev
    unfolding GoesOrBreaks
    steered steers emitted (Goes v' x') h =
        let over : step u (record v { kept = numbers_kept v.kept }) x ≡ Goes (record v' { kept = numbers_kept v.kept }) x' =
        step_over (Goes (record v' { kept = numbers_kept v.kept }) x')
        (same_done u e.writing is.facts v v' x x' now'.plain e.place u.position v.at st item.item steers emitted (done_is (Goes v' x') h)) in
        let alike = flats_go_on u (record v { kept = numbers_kept v.kept }) (record v' { kept = numbers_kept v.kept }) x x' active.now e.writing e.place e.function w y st item.item is.facts at steers emitted position (is.in_order v.at st at)
        active.both.stands active.known over in
        let shared = steering_shared u v v' x x' st steers (done_is (Goes v' x') h) in
        let led : IsIn v'.at (leads_on u v.at st) = subst (IsIn v'.at) (sym (steering_on u v.at st steers)) (steering_leads u v v' x x' st steers (done_is (Goes v' x') h)) in
        let many = plain_length e.function w (record w { position = e.place v'.at }) y (record y { objects = alike.after.objects }) item.item (steering_plain e.writing e.place u.position v.at st item.item steers emitted) alike.after.stored in
        let kept : v'.kept ≡ v.kept = steering_keeps u v v' x x' st steers (done_is (Goes v' x') h) in
        record {
          count = 1;
          view = record w { position = e.place v'.at };
          shared = record y { objects = alike.after.objects };
          does = last (step_at e.function w y item.item here ∙ alike.after.stored) refl;
          few = is.positive v.at st at;
          matched = record {
            position = refl;
            plain = λ k d holds. now'.plain k d (sym (ap (λ m. m k) kept) ∙ holds);
            typed = typed_on v'.at v'.kept kept (λ k basic kind. sym (steering_kinds e.writing v.at st k steers) ∙ is.fit.kinds v.at st v'.at at led k basic kind);
            staged = staged_on μ x x' y (record y { objects = alike.after.objects }) (e.stage v'.at) shared.transfer shared.units refl refl
                (subst (IsStaged μ x y) (sym (is.fit.stages v.at st v'.at at led ∙ steering_stages (e.stage v.at) st steers)) now'.staged);
            active = record {
              now = active.now;
              housed = active.housed;
              both = record {
                extends = active.both.extends;
                stands = alike.after.stands;
                units = shared.units ∙ active.both.units;
                transfers = subst (λ t. TransfersStand μ.image t y.transfer) (sym shared.transfer) active.both.transfers;
                as_many = many ∙ active.both.as_many;
              };
              free = active.free;
              others = active.others;
              frame = subst (IsFrameOf e.writing.facts.program μ) (sym alike.frame) active.frame;
              known = subst (λ f. IsKnown active.now e.writing f (numbers_kept v'.kept)) (sym alike.frame) (subst (λ m. IsKnown active.now e.writing v.frame (numbers_kept m)) (sym kept) active.known);
              temporaries = active.temporaries;
              procedures = subst (AreProceduresHeld s e active.now) (sym alike.frame) active.procedures;
            };
          };
        }
    steered steers emitted (Breaks act) h = λ claimed. absurd claimed
    steered steers emitted (Ends z v' x') h = absurd (subst GoesOrBreaks (done_is (Ends z v' x') h) (steering_goes u v x st steers))
    steered steers emitted (Calls v' x' n a) h = absurd (subst GoesOrBreaks (done_is (Calls v' x' n a) h) (steering_goes u v x st steers))
    steered steers emitted (Answers x' d) h = absurd (subst GoesOrBreaks (done_is (Answers x' d) h) (steering_goes u v x st steers))

    -- a temporary is there for each number, also behind a step that keeps one
    pub kept_there : (ν : World) → ((j : ℕ) → e.writing.is_number j ≡ true → IsTemporary ν (e.writing.naming.temporary j)) → (k : ℕ) (bytes : List (Option ℕ)) → 4 ≤ length bytes → e.writing.is_number k ≡ true → (j : ℕ) → e.writing.is_number j ≡ true
        → IsTemporary (with_held ν (e.writing.naming.temporary k) (Some (objects_of.Bytes bytes))) (e.writing.naming.temporary j)
    kept_there ν temporaries k bytes room numeric j other = by (nat_eq j k) refl
      where
        by : (b : Bool) → nat_eq j k ≡ b → IsTemporary (with_held ν (e.writing.naming.temporary k) (Some (objects_of.Bytes bytes))) (e.writing.naming.temporary j)
        by true same =
            let is_it : j ≡ k = eqb-true j k same in
            subst (λ i. IsTemporary (with_held ν (e.writing.naming.temporary k) (Some (objects_of.Bytes bytes))) (e.writing.naming.temporary i)) (sym is_it) (record {
              bytes = bytes;
              holds = changed_there ν.frozen (e.writing.naming.temporary k) (Some (objects_of.Bytes bytes));
              room = room;
              homeless = (temporaries k numeric).homeless;
            })
        by false apart =
            let old = temporaries j other in
            let differs : e.writing.naming.temporary j ≢ e.writing.naming.temporary k = λ same. not_equal j k apart ((is.apart k numeric).temporaries j same) in
            record {
              bytes = old.bytes;
              holds = changed_elsewhere ν.frozen (e.writing.naming.temporary k) (e.writing.naming.temporary j) (Some (objects_of.Bytes bytes)) differs ∙ old.holds;
              room = old.room;
              homeless = old.homeless;
            }
          where
            not_equal : (j k : ℕ) → nat_eq j k ≡ false → j ≡ k → ⊥
            not_equal j k apart same = absurd (cc (apart, eq-eqb j k same))

    -- dummy procedures are held still
    pub procedures_kept : (ν : World) (f : Frame) (k : ℕ) (held : Option objects_of.Object) → e.writing.is_number k ≡ true → AreProceduresHeld s e ν f → AreProceduresHeld s e (with_held ν (e.writing.naming.temporary k) held) f
    procedures_kept ν f k held numeric procedures x d parameter own bound address =
        let one = procedures x d parameter own bound address in
        (one.0, one.1, one.2, one.3, changed_elsewhere ν.frozen (e.writing.naming.temporary k) parameter held ((is.apart k numeric).addresses x parameter address) ∙ one.4)

    -- what is kept has the type of its value
    pub typed_behind : (b : Bool) (j k : ℕ) (kind : Option Basic) (value d : Datum) (basic : Basic) → (if b then Some value else v.kept j) ≡ Some d → (if b then kind else e.writing.kind v.at j) ≡ Some basic
        → (kind ≡ Some basic → HasType basic value) → HasType basic d
    typed_behind true j k kind value d basic holds is_kind typed = subst (HasType basic) (some_same value d holds) (typed is_kind)
    typed_behind false j k kind value d basic holds is_kind typed = now'.typed j d basic holds is_kind

    pub plain_behind : (b : Bool) (j : ℕ) (value d : Datum) → IsPlain value → (if b then Some value else v.kept j) ≡ Some d → IsPlain d
    plain_behind true j value d plain holds = subst IsPlain (some_same value d holds) plain
    plain_behind false j value d plain holds = now'.plain j d holds

    -- a step that keeps a value of a type, where its item keeps it too, also over the numbers that are kept
    keeps_on : (k : ℕ) (r over : Checked Datum) (type : Option Basic) (numeric : e.writing.is_number k ≡ true) → done u v x (Some st) ≡ keeping k v x r
        → done u (record v { kept = numbers_kept v.kept }) x (Some st) ≡ keeping k (record v { kept = numbers_kept v.kept }) x over → leads_on u v.at st ≡ suc v.at ∷ []
        → ((j : ℕ) → kind_after e.writing v.at st j ≡ (if nat_eq j k then type else e.writing.kind v.at j)) → stage_behind (e.stage v.at) st ≡ e.stage v.at
        → ((value : Datum) → r ≡ Gives value → over ≡ Gives value) → ((value : Datum) → r ≡ Gives value → IsPlain value) → ((value : Datum) (basic : Basic) → r ≡ Gives value → type ≡ Some basic → HasType basic value)
        → ((later : View) → step u (record v { kept = numbers_kept v.kept }) x ≡ Goes later x →
        KeepsAlike active.now (record v { kept = numbers_kept v.kept }) later x x e.writing k (length (active.temporaries k numeric).bytes) e.place e.function w y item.item)
        → (ev : Doing) → step u v x ≡ ev → Meets (call_couple s number u costs e) μ w y (cost costs v.at) ev
    unfolding GoesOrBreaks with_kept keeping onward to
    keeps_on k r over type numeric keep keep_over leading kinds stages same plains types alikes (Goes v' x') h =
        let done' : keeping k v x r ≡ Goes v' x' = sym keep ∙ done_is (Goes v' x') h in
        let kept = kept_by k v v' x x' r done' in
        let later : View = record v { kept = with_kept k kept.value (numbers_kept v.kept); at = suc v.at } in
        let over_is : step u (record v { kept = numbers_kept v.kept }) x ≡ Goes later x = step_over (Goes later x) (keep_over ∙ ap (keeping k (record v { kept = numbers_kept v.kept }) x) (same kept.value kept.gives)) in
        let mine = active.temporaries k numeric in
        let alike = alikes later over_is in
        let led : IsIn v'.at (leads_on u v.at st) = subst (IsIn v'.at) (sym leading) (subst (λ n. IsIn n (suc v.at ∷ [])) (sym kept.at) first_in) in
        let room : 4 ≤ length alike.bytes = subst (λ n. 4 ≤ n) (sym alike.same_size) mine.room in
        let whole = alike.known.numbers k kept.value (kept_itself k kept.value (numbers_kept v.kept)) numeric in
        let behind : View = record v { kept = with_kept k kept.value v.kept; at = suc v.at } in
        let goes_to : keeping k v x r ≡ Goes behind x = ap (keeping k v x) kept.gives in
        let view_is : behind ≡ v' = goes_view behind v' x x' (keeping k v x r) goes_to done' in
        let world_is : x' ≡ x = goes_world behind v' x x' (keeping k v x r) goes_to done' in
        let numbers : with_kept k kept.value (numbers_kept v.kept) ≡ numbers_kept v'.kept = sym (numbers_behind k kept.value v.kept (whole_number kept.value whole.0 whole.1)) ∙ ap numbers_kept (sym kept.kept) in
        record {
          count = 1;
          view = record w { position = e.place v'.at; wants = alike.wants };
          shared = record y { objects = slice_set y.objects (e.writing.naming.temporary k) (objects_of.Bytes alike.bytes) };
          does = last (step_at e.function w y item.item here ∙ alike.goes
              ∙ ap (λ n. Goes (record w { position = e.place n; wants = alike.wants }) (record y { objects = slice_set y.objects (e.writing.naming.temporary k) (objects_of.Bytes alike.bytes) })) (sym kept.at)) refl;
          few = is.positive v.at st at;
          matched = record {
            position = refl;
            plain = λ j d holds. plain_behind (nat_eq j k) j kept.value d (plains kept.value kept.gives) (sym (ap (λ m. m j) kept.kept) ∙ holds);
            typed = λ j d basic holds kind. typed_behind (nat_eq j k) j k type kept.value d basic (sym (ap (λ m. m j) kept.kept) ∙ holds) (sym (kinds j) ∙ is.fit.kinds v.at st v'.at at led j basic kind) (types kept.value basic kept.gives);
            staged = staged_on μ x x' y (record y { objects = slice_set y.objects (e.writing.naming.temporary k) (objects_of.Bytes alike.bytes) }) (e.stage v'.at)
                (ap (λ (z : fortran.World). z.transfer) world_is) (ap (λ (z : fortran.World). z.units) world_is) refl refl
                (subst (IsStaged μ x y) (sym (is.fit.stages v.at st v'.at at led ∙ stages)) now'.staged);
            active = record {
              now = with_held active.now (e.writing.naming.temporary k) (Some (objects_of.Bytes alike.bytes));
              housed = active.housed;
              both = record {
                extends = extends_changed μ.image active.now (e.writing.naming.temporary k) (Some (objects_of.Bytes alike.bytes)) active.both.extends (not_held_yet μ.image active.free (e.writing.naming.temporary k) (is.temporaries k numeric));
                stands = subst (λ (z : fortran.World). Stands (with_held active.now (e.writing.naming.temporary k) (Some (objects_of.Bytes alike.bytes))) z.store (slice_set y.objects (e.writing.naming.temporary k) (objects_of.Bytes alike.bytes))) (sym world_is) alike.stands;
                units = ap (λ (z : fortran.World). z.units) world_is ∙ active.both.units;
                transfers = subst (λ t. TransfersStand μ.image t y.transfer) (sym (ap (λ (z : fortran.World). z.transfer) world_is)) active.both.transfers;
                as_many = length-set y.objects (e.writing.naming.temporary k) (objects_of.Bytes alike.bytes) ∙ active.both.as_many;
              };
              free = active.free;
              others = λ j apart free. idle_beside_object active.now (s.rooms j).first (s.rooms j).count (e.writing.naming.temporary k) (Some (objects_of.Bytes alike.bytes)) (active.others j apart free)
                  (made_far (e.writing.naming.temporary k) (is.temporaries k numeric) j apart);
              frame = subst (IsFrameOf e.writing.facts.program μ) (ap (λ (z : View). z.frame) view_is) active.frame;
              known = subst (λ f. IsKnown (with_held active.now (e.writing.naming.temporary k) (Some (objects_of.Bytes alike.bytes))) e.writing f (numbers_kept v'.kept)) (ap (λ (z : View). z.frame) view_is)
                  (subst (IsKnown (with_held active.now (e.writing.naming.temporary k) (Some (objects_of.Bytes alike.bytes))) e.writing v.frame) numbers alike.known);
              temporaries = kept_there active.now active.temporaries k alike.bytes room numeric;
              procedures = subst (AreProceduresHeld s e (with_held active.now (e.writing.naming.temporary k) (Some (objects_of.Bytes alike.bytes)))) (ap (λ (z : View). z.frame) view_is)
                  (procedures_kept active.now v.frame k (Some (objects_of.Bytes alike.bytes)) numeric active.procedures);
            };
          };
        }
    keeps_on k r over type numeric keep keep_over leading kinds stages same plains types alikes (Breaks act) h = λ claimed. absurd claimed
    keeps_on k r over type numeric keep keep_over leading kinds stages same plains types alikes (Ends z v' x') h = absurd (subst GoesOrBreaks (sym keep ∙ done_is (Ends z v' x') h) (keeping_goes k v x r))
    keeps_on k r over type numeric keep keep_over leading kinds stages same plains types alikes (Calls v' x' n a) h = absurd (subst GoesOrBreaks (sym keep ∙ done_is (Calls v' x' n a) h) (keeping_goes k v x r))
    keeps_on k r over type numeric keep keep_over leading kinds stages same plains types alikes (Answers x' d) h = absurd (subst GoesOrBreaks (sym keep ∙ done_is (Answers x' d) h) (keeping_goes k v x r))

    pub keeps : (k : ℕ) (p : Pure) → st ≡ Keep k p → e.writing.is_number k ≡ true → flat_of e.writing e.place u.position v.at (Keep k p) ≡ Some item.item → Meets (call_couple s number u costs e) μ w y (cost costs v.at) (step u v x)
    unfolding done leads leads_on stage_behind kind_after flat_of
    keeps k p keep numeric emitted =
        let there : slice_get u.steps v.at ≡ Some (Keep k p) = at ∙ ap Some keep in
        let m = assigned_by (if_number (e.writing.is_number k) (Some (Variable (e.writing.naming.temporary k) ToNumber))) (value_term e.writing p) item.item emitted in
        let kind = is.fit.keeps v.at k p there in
        let mine = active.temporaries k numeric in
        let meant' : (value : Datum) → meant u.facts v.frame v.kept x.store p ≡ Gives value → meant e.writing.facts v.frame v.kept x.store p ≡ Gives value = λ value gives. ap (λ f. meant f v.frame v.kept x.store p) is.facts ∙ gives in
        let typed : (value : Datum) (basic : Basic) → meant u.facts v.frame v.kept x.store p ≡ Gives value → type_of e.writing v.at p ≡ Some basic → HasType basic value =
        λ value basic gives type. types_are_right e.writing v.at v.frame v.kept x.store p value basic active.known.types now'.typed type (meant' value gives) in
        keeps_on k (meant u.facts v.frame v.kept x.store p) (meant u.facts v.frame (numbers_kept v.kept) x.store p) (type_of e.writing v.at p) numeric (ap (λ o. done u v x (Some o)) keep)
        (ap (λ o. done u (record v { kept = numbers_kept v.kept }) x (Some o)) keep) (ap (leads_on u v.at) keep) (λ j. ap (λ o. kind_after e.writing v.at o j) keep) (ap (stage_behind (e.stage v.at)) keep)
        (λ value gives. ap (λ f. meant f v.frame (numbers_kept v.kept) x.store p) (sym is.facts)
        ∙ typed_read (meant e.writing.facts v.frame (numbers_kept v.kept) x.store p) kind.0 value (typed value kind.0 gives kind.1) (value_read e.writing v.frame v.kept x.store now'.plain p m.value value m.value_is (meant' value gives)))
        (λ value gives. typed_plain kind.0 value (typed value kind.0 gives kind.1)) typed
        (λ later h. kept_flats_go_on u (record v { kept = numbers_kept v.kept }) later x x active.now e.writing e.place e.function w y k mine.bytes p item.item is.facts there emitted position (is.in_order v.at st at) active.both.stands active.known
        mine.holds mine.room mine.homeless (is.apart k numeric) h)
        (step u v x) refl

    -- what is called of the library is there, and the constants are held now
    calls_library : CallsLibrary active.now e.writing.library e.function
    calls_library = record {
      own = is.fit.own;
      constants = λ z has.
          let held = is.fit.constants z has in
          record { bytes = held.bytes; is = active.both.extends.frozen _ (objects_of.Bytes held.bytes) (active.housed.frozen _ (objects_of.Bytes held.bytes) held.is); begins = held.begins };
    }

    pub computes : (k : ℕ) (f : Function) (ps : Pures) → st ≡ Compute k f ps → e.writing.is_number k ≡ true → flat_of e.writing e.place u.position v.at (Compute k f ps) ≡ Some item.item
        → Meets (call_couple s number u costs e) μ w y (cost costs v.at) (step u v x)
    unfolding done leads leads_on stage_behind kind_after flat_of
    computes k f ps compute numeric emitted =
        let there : slice_get u.steps v.at ≡ Some (Compute k f ps) = at ∙ ap Some compute in
        let m = called_by e.writing (if_number (e.writing.is_number k) (Some (Variable (e.writing.naming.temporary k) ToNumber))) (library_function f) (held_terms e.writing ps) item.item emitted in
        let mine = active.temporaries k numeric in
        keeps_on k (given_that (all_meant u.facts v.frame v.kept x.store ps) (applied f)) (given_that (all_meant u.facts v.frame (numbers_kept v.kept) x.store ps) (applied f)) (library_type f) numeric (ap (λ o. done u v x (Some o)) compute)
        (ap (λ o. done u (record v { kept = numbers_kept v.kept }) x (Some o)) compute) (ap (leads_on u v.at) compute) (λ j. ap (λ o. kind_after e.writing v.at o j) compute) (ap (stage_behind (e.stage v.at)) compute)
        (λ value gives. let values = got (all_meant u.facts v.frame v.kept x.store ps) (applied f) value gives in
        let computed = computed_by f m.one values.value value m.one_is values.gives in
        let read = integers_held e.writing v.frame v.kept x.store now'.plain ps m.terms values.value (integers_of m.one.takes values.value computed.operands) m.terms_are (ap (λ c. all_meant c v.frame v.kept x.store ps) is.facts ∙ values.is) in
        same_applied (all_meant u.facts v.frame (numbers_kept v.kept) x.store ps) values.value f value (ap (λ c. all_meant c v.frame (numbers_kept v.kept) x.store ps) (sym is.facts) ∙ read) values.gives)
        (λ value gives. let values = got (all_meant u.facts v.frame v.kept x.store ps) (applied f) value gives in typed_plain m.one.gives value (computed_by f m.one values.value value m.one_is values.gives).typed)
        (λ value basic gives type. let values = got (all_meant u.facts v.frame v.kept x.store ps) (applied f) value gives in library_types_are_right f values.value value basic type values.gives)
        (λ later h. computed_flats_go_on u (record v { kept = numbers_kept v.kept }) later x x active.now e.writing e.place e.function w y k mine.bytes f ps item.item is.facts there emitted position (is.in_order v.at st at) active.both.stands active.known
        calls_library mine.holds mine.room mine.homeless (is.apart k numeric) h)
        (step u v x) refl
