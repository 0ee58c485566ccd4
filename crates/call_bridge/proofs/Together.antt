-- Alike states are the same, and so each run of the units is the run of the texts.
use Rattle.std.specs.Prelude.{◌≡◌, ℕ, ◌≤◌, ◌*◌, not, cond, Bool, true, false, List, [], ◌∷◌, map, filter, Option, Some, None, option_and_then, slice_get}
use Rattle.std.proofs.Common.{refl, sym, ap, ◌∙◌, subst}
use Rattle.lowering_laws.specs.simulation.Machine.{State, Broken, Frame, Has, numbers, run, begun, calling}
use Rattle.lowering_laws.specs.simulation.Law.{Alike, running, over, finished, undefined, unchanged, WaitingFrames, none, text, wrapper, unless_so, without}
use Rattle.lowering_laws.proofs.simulation.Runs.{run-broken}
use Rattle.lowering_laws.proofs.simulation.LawProof.{law}
use Rattle.lowering_laws.proofs.simulation.Corollaries.{same_texts}
use Rattle.lowering_laws.proofs.simulation.Waiting.{below_waits}
use Rattle.lowering_laws.specs.run_state.Units.{Units}
use Rattle.lowering_laws.specs.f_tree.Values.{NoMeaning}
use Rattle.lowering_laws.specs.f_tree.Facts.{ProgramUnit}
use Rattle.lowering_laws.specs.f_tree.Setting.{Setting}
use Rattle.lowering_laws.specs.f_tree.World as fortran
use Rattle.lowering_laws.specs.f_tree.World.{TheMain, fortran_sorts}
use Rattle.lowering_laws.specs.f_tree.Step.{fortran}
use Rattle.lowering_laws.specs.f_tree.Meaning as source
use Rattle.lowering_laws.specs.f_tree.Meaning.{RunState, found_from, started, ftn, act_of, call_of_main, start_world}
use Rattle.lowering_laws.specs.l_core.Machine.{View}
use Rattle.lowering_laws.specs.l_core.Costs.{cost}
use Rattle.lowering_laws.specs.Layer.{lower_kit}
use Rattle.lowering_laws.specs.simulation.Composition.{composite_kit}
use Rattle.procedure_emission.specs.c_tree.declared.file.CFile.{CFile}
use Rattle.procedure_emission.specs.c_tree.declared.file.CFunction.{CFunction}
use Rattle.procedure_emission.specs.c_tree.World as c
use Rattle.procedure_emission.specs.c_tree.Linking as linking
use Rattle.procedure_emission.specs.c_tree.Meaning.{run_of, meaning, step_factor}
use Rattle.procedure_emission.specs.c_tree.Steps as c_steps
use Rattle.procedure_emission.specs.c_tree.Steps.{sorts}
use Rattle.procedure_emission.specs.faithful.StorageImage.{function_number}
use Rattle.procedure_emission.specs.faithful.FrameImage as each
use Rattle.procedure_emission.specs.faithful.FrameImage.{Each, ProcedureStands, FrameStands}
use Rattle.procedure_emission.specs.faithful.SameState as same
use Rattle.procedure_emission.specs.faithful.SameState.{is_inner, function_of, SameWorld, SameActive, Same}
use Rattle.procedure_emission.specs.faithful.Faithful.{SameRuns}
use Rattle.procedure_emission.specs.c_image.World.{World, Extends}
use Rattle.procedure_emission.proofs.c_image_laws.Growing.{extends_through}
use Rattle.procedure_emission.specs.late_starts.LateStarts.{IsLate, ready, early}
use Rattle.procedure_emission.specs.emitted_texts.SecondLayer.{BothStand}
use Rattle.procedure_emission.specs.CallLayer.{CallWorld, call_kit, call_couple, IsEarly}
use Rattle.call_bridge.specs.CallBridge.{Translation, MayRun, is_wrapper, linking_of, IsTranslated, CallsRunAlike}
use Rattle.call_bridge.proofs.LinkedUnits.{linked}
use Rattle.call_bridge.proofs.Beginning.{first_alike}
use Rattle.call_bridge.proofs.Standing.{transfers_later, names_later, procedure_stands, early_stands, waiting_stand}

-- ## Functions

-- each of some units may run
data AllMayRun (S : List ProgramUnit) : List ℕ → Type 0 where
  no_unit : AllMayRun S []
  one_unit : (i : ℕ) (is : List ℕ) → MayRun S i → AllMayRun S is → AllMayRun S (i ∷ is)

AllPass : (ℕ → Bool) → List ℕ → Type 0
AllPass test [] = Unit {0}
AllPass test (k ∷ ks) = (test k ≡ true) × AllPass test ks

-- leaving out what does not pass, by either of two tests
kept_by : (outer inner : ℕ → Bool) (k : ℕ) (ks ys : List ℕ) → (outer k ≡ true → inner k ≡ false) → ((zs : List ℕ) → without outer ks ≡ zs → AllPass inner zs → filter inner ks ≡ zs) → (b : Bool) → outer k ≡ b
    → unless_so b k (without outer ks) ≡ ys → AllPass inner ys → filter inner (k ∷ ks) ≡ ys
unfolding AllPass
kept_by outer inner k ks ys agree later true h e all = ap (λ d. cond d (k ∷ filter inner ks) (filter inner ks)) (agree h) ∙ later ys e all
kept_by outer inner k ks ys agree later false h e all =
    let all' : AllPass inner (k ∷ without outer ks) = subst (AllPass inner) (sym e) all in
    ap (λ d. cond d (k ∷ filter inner ks) (filter inner ks)) all'.0 ∙ ap (λ zs. k ∷ zs) (later (without outer ks) refl all'.1) ∙ e

filter_is : (outer inner : ℕ → Bool) → ((k : ℕ) → outer k ≡ true → inner k ≡ false) → (ks ys : List ℕ) → without outer ks ≡ ys → AllPass inner ys → filter inner ks ≡ ys
filter_is outer inner agree [] ys e all = e
filter_is outer inner agree (k ∷ ks) ys e all = kept_by outer inner k ks ys (agree k) (filter_is outer inner agree ks) (outer k) refl e all

not_true : (b : Bool) → not b ≡ true → b ≡ false
not_true true e = absurd (cc)
not_true false e = refl

wrappers_are_none : (found : Option CFunction) → is_wrapper found ≡ true → is_inner found ≡ false
unfolding is_wrapper
wrappers_are_none None e = absurd (cc)
wrappers_are_none (Some function) e = not_true (is_inner (Some function)) e

module _ (g : Setting) (S : List ProgramUnit) (files : List CFile) (t : Translation) (is : IsTranslated g S files t) where
  all_named : (ks : List ℕ) → AllMayRun S ks → map (function_of S files) ks ≡ map Some (map (λ i. (t.emissions i).number) ks)
  all_named _ no_unit = refl
  all_named _ (one_unit i ks known more) =
      let one = is.units i known in
      let number : function_of S files i ≡ Some (t.emissions i).number = ap (option_and_then (function_number files)) one.has ∙ one.named in
      (λ k. number k ∷ all_named ks more k)

  all_inner : (ks : List ℕ) → AllMayRun S ks → AllPass (λ k. is_inner (slice_get (linking.all_functions files) k)) (map (λ i. (t.emissions i).number) ks)
  unfolding AllPass
  all_inner _ no_unit = tt
  all_inner _ (one_unit i ks known more) = ((is.units i known).inner, all_inner ks more)

  -- the active functions are those of the active procedures
  same_active : (ks js : List ℕ) → AllMayRun S ks → without (λ k. is_wrapper (slice_get (linking.all_functions files) k)) js ≡ map (λ i. (t.emissions i).number) ks → SameActive S files ks js
  same_active ks js known e =
      let kept = filter_is (λ k. is_wrapper (slice_get (linking.all_functions files) k)) (λ k. is_inner (slice_get (linking.all_functions files) k))
      (λ k. wrappers_are_none (slice_get (linking.all_functions files) k)) js (map (λ i. (t.emissions i).number) ks) e (all_inner ks known) in
      all_named ks known ∙ ap (map Some) (sym kept)

  waiting_may_run : {μ : (composite_kit lower_kit (call_kit t.surroundings)).World} {us : List (Frame fortran_sorts)} {fs : List (Frame sorts)} → WaitingFrames (linking_of g S files t) μ us fs → AllMayRun S (numbers us)
  unfolding numbers
  waiting_may_run none = no_unit
  waiting_may_run (text {j = j} {us = us} known home grows waits later rest) = one_unit j (numbers us) known (waiting_may_run rest)
  waiting_may_run (wrapper named rest) = waiting_may_run rest

  -- ## States

  same_world : (μ ν : World) (x : fortran.World) (y : c.World) (procedures : List (Frame fortran_sorts)) → Extends t.surroundings.first μ → BothStand t.surroundings μ ν x y → Each (FrameStands S files ν.homes y.objects) procedures
      → SameWorld S g files procedures x y
  same_world μ ν x y procedures houses both active = record {
    homes = ν.homes;
    same_units = both.units;
    transfers = transfers_later μ ν x.transfer y.transfer both.extends both.transfers;
    image = record { names = names_later g S files t is ν (extends_through t.surroundings.first μ ν houses both.extends); stored = both.stands.units; active = active };
  }

  -- the world in which an active procedure stands
  record IsNow (i : ℕ) (μ : CallWorld) (v : fortran.View) (m : fortran.World) (z : c.World) : Type 0 where
    now : World
    both : BothStand t.surroundings μ.image now m z
    here : ProcedureStands S files now.homes z.objects i v.frame

  -- its function is at the item of its step, or keeps bounds yet
  stands_now : (i : ℕ) → MayRun S i → (μ : CallWorld) (v : fortran.View) (x : View) (m : fortran.World) (w : c_steps.View) (z : c.World) → v.frame ≡ x.frame
      → IsLate (call_couple t.surroundings i (t.texts i) (t.own_costs i) (t.emissions i)) (IsEarly t.surroundings i (t.emissions i)) (λ (u : View). cost (t.costs i) u.at) μ x m w z → IsNow i μ v m z
  stands_now i known μ v x m w z same (ready at) =
      let active = at.active in
      record { now = active.now; both = active.both; here = procedure_stands g S files t is active.now z.objects active.both.stands.held i μ v x known same active.frame active.known active.procedures }
  stands_now i known μ v x m w z same (early count view shared first path few later) =
      record { now = first.now; both = first.both; here = early_stands g S files t is first.now z.objects first.both.stands.held i μ v x.frame known same first.frame first.known first.procedures }

  -- the main program is there, so some text is housed
  alike_same : (main : ℕ) → MayRun S main → {x : RunState} {y : State c.Ending sorts} → Alike (linking_of g S files t) x y → act_of x ≡ None → Same S g files x y
  unfolding act_of numbers
  alike_same main may (running {μ = μ} {i = i} {v = v} {s = s} {w = w} {t = z} {us = us} {fs = fs} known home matched below) going =
      let upper = matched.2 in
      let waiting = below_waits (linking_of g S files t) below unchanged in
      let frame : v.frame ≡ matched.0.frame = sym (ap (λ (view : View). view.frame) upper.seen) in
      let active = stands_now i known μ.1 v matched.0 matched.1 w z frame matched.3 in
      let below' = waiting_stand g S files t is active.now z.objects active.both.stands.held active.both.extends waiting in
      let texts = same_texts (linking_of g S files t) (step_factor files) (linked g S files t is) (running {w = w} {t = z} known home matched below) in
      same.running i v us s (t.emissions i).number w fs z
      (subst (λ m. SameWorld S g files (Has i v ∷ us) m z) (sym upper.same)
      (same_world μ.1.image active.now matched.1 z (Has i v ∷ us) (home.houses i known).1 active.both (each.more (Has i v) us active.here below')))
      (same_active (i ∷ numbers us) ((t.emissions i).number ∷ numbers fs) (one_unit i (numbers us) known (waiting_may_run waiting)) texts)
  alike_same main may (over {μ = μ} {i = i} {e = e} {v = v} {s = s} {w = w} {t = z} {us = us} {fs = fs} known home halted below) going =
      let active = halted.3 in
      let waiting = below_waits (linking_of g S files t) below unchanged in
      let here = procedure_stands g S files t is active.now z.objects active.both.stands.held i μ.1 v halted.0 known halted.2.1 active.frame active.known active.procedures in
      let below' = waiting_stand g S files t is active.now z.objects active.both.stands.held active.both.extends waiting in
      let texts = same_texts (linking_of g S files t) (step_factor files) (linked g S files t is) (over {e = e} {w = w} {t = z} known home halted below) in
      same.ended e (Has i v ∷ us) s (Has (t.emissions i).number w ∷ fs) z
      (subst (λ m. SameWorld S g files (Has i v ∷ us) m z) (sym halted.2.0)
      (same_world μ.1.image active.now halted.1 z (Has i v ∷ us) (home.houses i known).1 active.both (each.more (Has i v) us here below')))
      (same_active (i ∷ numbers us) ((t.emissions i).number ∷ numbers fs) (one_unit i (numbers us) known (waiting_may_run waiting)) texts)
  alike_same main may (finished {μ = μ} {e = e} {s = s} {r = r} {t = z} {r' = r'} houses given) going =
      same.ended e [] s [] z
      (subst (λ m. SameWorld S g files [] m z) (sym given.2.0)
      (same_world μ.1.image given.3.now given.0 z [] (houses main may).1 given.3.both each.none))
      refl
  alike_same main may undefined going = absurd (cc)

  -- ## Runs

  lost : (units : Units) (n : ℕ) → found_from 0 S TheMain ≡ None → act_of (ftn g S units n) ≡ None → ⊥
  unfolding ftn started begun calling source.program act_of run numbers
  lost units n absent going =
      let broken : ftn g S units n ≡ Broken _ [] = ap (λ o. run fortran (source.program g S) n (calling fortran (source.program g S) o TheMain call_of_main (start_world g S units) [])) absent ∙ run-broken fortran (source.program g S) n _ [] in
      absurd (cc (ap act_of broken, going))

  pub runs_alike : (units : Units) (n : ℕ) → (act_of (ftn g S units n) ≡ Some NoMeaning → ⊥) → SameRuns S g files units n
  unfolding ftn meaning run_of
  runs_alike units n meant = record { has_meaning = meant; same = λ going. by (found_from 0 S TheMain) refl going }
    where
      by : (found : Option ℕ) → found_from 0 S TheMain ≡ found → act_of (ftn g S units n) ≡ None → (m : ℕ) × (n ≤ m) × (m ≤ step_factor files * n) × Same S g files (ftn g S units n) (meaning files units m)
      by None is' going = absurd (lost units n is' going)
      by (Some main) is' going = its_runs main is' going
        where
          its_runs : (main : ℕ) → found_from 0 S TheMain ≡ Some main → act_of (ftn g S units n) ≡ None → (m : ℕ) × (n ≤ m) × (m ≤ step_factor files * n) × Same S g files (ftn g S units n) (meaning files units m)
          its_runs main is' going =
              let r = law (linking_of g S files t) (step_factor files) (linked g S files t is) (first_alike g S files t is units main is') n in
              (r.0, r.1, r.2, alike_same main (TheMain, is') r.3 going)

pub calls_run_alike : CallsRunAlike
calls_run_alike g S files t is units n meant = runs_alike g S files t is units n meant
