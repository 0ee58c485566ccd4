-- A run of units whose statements agree with the procedures of the set: at each step its statement agrees, and so do those that wait.
use Rattle.std.specs.Prelude.{◌≡◌, ℕ, zero, suc, ◌≤◌, Bool, true, false, List, [], ◌∷◌, length, Option, Some, None, slice_get, if◌then◌else◌}
use Rattle.std.proofs.Common.{refl, sym, subst, arith}
use Rattle.fortran_totality.specs.f_tree.simulation.Machine.{Entry, Enters, Refused, Frame as Active, Has as HasView, Runs, Over, Broken, numbers, active as active_among, entering, unless_active, opening, calling, answering, act, next, run, begun}
use Rattle.fortran_totality.specs.f_tree.run_state.Units.{Units}
use Rattle.fortran_totality.specs.f_tree.declared.names.Basic.{Basic}
use Rattle.fortran_totality.specs.f_tree.Values.{Spot, Datum, IsInt, IsLog, IsText, IsSpot, IsProc, IsLabel, Nothing, Act, Disagreement, MissingProcedure, ActiveProcedure, Checked, Gives, Fails}
use Rattle.fortran_totality.specs.f_tree.Terms.{Wanted, AsSubroutine}
use Rattle.fortran_totality.specs.f_tree.Store.{Store}
use Rattle.fortran_totality.specs.f_tree.Facts.{Direction, Bounds, EntryPoint, Form, ProgramUnit, Facts, Frame}
use Rattle.fortran_totality.specs.f_tree.World.{Transfer, World, View, Now, Doing, Turning, Waits, Returning, Called, TheMain, Passed, Ending, fortran_sorts, Happening, entered}
use Rattle.fortran_totality.specs.f_tree.Places.{arrived, passed, gone_to}
use Rattle.fortran_totality.specs.f_tree.Association.{Bindings, entry_of, serves, bind_all, all_dimensions_by, result_of, with_result, frame_of, begun_with, begun_bound, begun_at, start, cut_to, returned, resumed_by, resume, bounds_for}
use Rattle.fortran_totality.specs.f_tree.Step.{fortran, step}
use Rattle.fortran_totality.specs.f_tree.Setting.{Setting, IsIn}
use Rattle.fortran_totality.specs.f_tree.Meaning.{RunState, program, facts_at, found_from, start_world, started, call_of_main, ftn}
use Rattle.fortran_totality.specs.f_tree.WellTyped as typed
use Rattle.fortran_totality.specs.f_tree.WellTyped.{ValueOf, IsOf, none_of, IsAnswer, EachListIsMeant}
use Rattle.fortran_totality.specs.f_tree.WellFormed.{IsWellFormed, AreWellFormed}
use Rattle.fortran_totality.specs.f_tree.Holding as holding
use Rattle.fortran_totality.specs.f_tree.Holding.{IsHolding, IsNext, IsStaged, of_others, IsWaiting, IsPassed, IsReply, Happens, IsReady, Begins, Resumes, EachStepIsMeant, EachStartIsMeant, EachAnswerIsMeant}
use Rattle.fortran_totality.proofs.RunLemmas.{texts, IsFound, is_found}
use Rattle.agreeing_runs.specs.AgreeingForms.{LinesAgree}
use Rattle.agreeing_runs.proofs.PlaceLemmas.{NowHas, ViewHas, EachHas, each_from, arrived_has, passed_has, gone_has}
use Rattle.agreeing_runs.proofs.StepLemmas.{WaitAgrees, EventAgrees, Has, step_agrees}
use Rattle.agreeing_runs.proofs.BeginLemmas.{start_begins}

-- HOW A PROCEDURE BEGINS, and how it goes on with an answer
unfoldable EntryHas : (Form → Type 0) → Entry fortran_sorts → Type 0
EntryHas P (Enters v w) = NowHas P v.now
EntryHas P (Refused act) = Unit {0}

module _ (P : Form → Type 0) where
  entered_has : (w : World) (r : Checked View) → ViewHas P r → EntryHas P (entered r w)
  unfolding entered EntryHas ViewHas
  entered_has w (Gives v) has = has
  entered_has w (Fails act) has = tt

  entry_if : (b : Bool) (x y : Entry fortran_sorts) → EntryHas P x → EntryHas P y → EntryHas P (if b then x else y)
  entry_if true x y one other = one
  entry_if false x y one other = other

  module _ (c : Facts) (all : EachHas P c.program.lines) where
    with_has : (w : World) (f : Frame) (names : List (List ℕ)) (r : Checked (List (List Bounds))) → EntryHas P (begun_with c w f names r)
    unfolding begun_with EntryHas
    with_has w f names (Gives bs) =
        let g : Frame = record f { dimensions = λ x. bounds_for x names bs } in
        entered_has w (arrived c.program g [] f.called.start) (arrived_has P c.program all g [] f.called.start)
    with_has w f names (Fails act) = tt

    bound_has : (w : World) (e : EntryPoint) (result : Option Spot) (r : Checked Bindings) → EntryHas P (begun_bound c w e result r)
    unfolding begun_bound EntryHas
    bound_has w e result (Gives bs) =
        let s : Store = with_result c.program.kind result w.store in
        let f : Frame = frame_of e bs (result_of c.program.kind (c.program.attribute e.name) result w.store) (length w.store) in
        with_has (record w { store = s }) f bs.names (all_dimensions_by c f s bs.names)
    bound_has w e result (Fails act) = tt

    begun_has : (p : Passed) (w : World) (o : Option EntryPoint) → EntryHas P (begun_at c p w o)
    unfolding begun_at EntryHas
    begun_has p w None = tt
    begun_has p w (Some e) =
        entry_if (serves c.program.kind (c.program.attribute e.name) p.want) (begun_bound c w e p.result (bind_all c.program e.formals p.actuals)) (Refused Disagreement)
        (bound_has w e p.result (bind_all c.program e.formals p.actuals)) tt

    start_has : (name : Called) (p : Passed) (w : World) → EntryHas P (start c name p w)
    unfolding start
    start_has name p w = begun_has p w (entry_of c.program.kind c.program.entries name)

    returned_has : (v : View) (d : Datum) (w : World) → EntryHas P (returned c v d w)
    unfolding returned
    returned_has v (IsLabel l) w = entered_has w (gone_to c.program v.frame v.loops l) (gone_has P c.program all v.frame v.loops l)
    returned_has v (IsInt z) w = entered_has w (passed c.program v.frame v.loops v.at) (passed_has P c.program all v.frame v.loops v.at)
    returned_has v (IsLog b) w = entered_has w (passed c.program v.frame v.loops v.at) (passed_has P c.program all v.frame v.loops v.at)
    returned_has v (IsText cs) w = entered_has w (passed c.program v.frame v.loops v.at) (passed_has P c.program all v.frame v.loops v.at)
    returned_has v (IsSpot p) w = entered_has w (passed c.program v.frame v.loops v.at) (passed_has P c.program all v.frame v.loops v.at)
    returned_has v (IsProc x) w = entered_has w (passed c.program v.frame v.loops v.at) (passed_has P c.program all v.frame v.loops v.at)
    returned_has v Nothing w = entered_has w (passed c.program v.frame v.loops v.at) (passed_has P c.program all v.frame v.loops v.at)

module _ (S : List ProgramUnit) (c : Facts) (n : ℕ) (all : EachHas (Has S c n) c.program.lines) where
  resumed_by_has : (v : View) (want : Wanted) (now : Now) (d : Datum) (w : World) → IsAnswer n want d → WaitAgrees S c n want now →
      EntryHas (Has S c n) (resumed_by c v now d w)
  unfolding resumed_by EntryHas WaitAgrees NowHas
  resumed_by_has v want (Waits height rest) d w answer waits = waits d answer
  resumed_by_has v want (Returning height) d w answer waits = returned_has (Has S c n) c all v d (cut_to height w)
  resumed_by_has v want (Doing form) d w answer waits = tt
  resumed_by_has v want Turning d w answer waits = tt

  resume_has : (v : View) (want : Wanted) (d : Datum) (w : World) → IsAnswer n want d → WaitAgrees S c n want v.now → EntryHas (Has S c n) (resume c v d w)
  unfolding resume
  resume_has v want d w answer waits = resumed_by_has v want v.now d w answer waits

value_more : (n : ℕ) (basic : Basic) (d : Datum) → IsOf 0 (ValueOf basic) d → IsOf n (ValueOf basic) d
value_more n basic d (typed.integer z) = typed.integer z
value_more n basic d (typed.logical b) = typed.logical b
value_more n basic d (typed.text cs) = typed.text cs

reply_is_answer : (labels : ℕ → Type 0) (n : ℕ) (want : Wanted) (d : Datum) → IsReply labels want d → IsAnswer n want d
unfolding IsAnswer
reply_is_answer labels n want d holding.no_reply = tt
reply_is_answer labels n want d (holding.a_label label is) = tt
reply_is_answer labels n want d (holding.a_value basic width _ is) = value_more n basic d is

reply_for : (one other : ℕ → Type 0) (want : Wanted) (d : Datum) → ((label : ℕ) → one label → other label) → IsReply one want d → IsReply other want d
reply_for one other want d knows holding.no_reply = holding.no_reply
reply_for one other want d knows (holding.a_label label is) = holding.a_label label (knows label is)
reply_for one other want d knows (holding.a_value basic width _ is) = holding.a_value basic width d is

-- A WHOLE RUN. The procedures that wait, as in a run of well-formed units, with the statements that they go on with
pub data AllWait (S : List ProgramUnit) (text : ℕ → Facts) (least : ℕ) : Wanted → List Datum → ℕ → Option Transfer → List (Active fortran_sorts) → Type 0 where
  none_waits : (actuals : List Datum) (base : ℕ) → AllWait S text least AsSubroutine actuals base None []
  one_waits : (k : ℕ) (v : View) (below : List (Active fortran_sorts)) (want asked : Wanted) (stage : Option Direction) (count base : ℕ)
      (actuals others : List Datum) (transfer : Option Transfer) → IsWellFormed (text k) least → IsHolding (text k) least want count v →
      IsWaiting (text k) count actuals v stage asked v.now → count ≤ base → IsStaged (text k).program count stage transfer →
      ((label : ℕ) → IsIn label v.frame.alternates → IsIn (IsLabel label) others) → WaitAgrees S (text k) count asked v.now →
      AllWait S text least want others v.frame.base (of_others stage transfer) below → AllWait S text least asked actuals base transfer (HasView k v ∷ below)

pub data RunAgrees (S : List ProgramUnit) (text : ℕ → Facts) (least : ℕ) : RunState → Type 0 where
  it_runs : (k : ℕ) (v : View) (below : List (Active fortran_sorts)) (w : World) (want : Wanted) (stage : Option Direction) (actuals : List Datum) →
      IsReady (text k) least want stage v w → IsNext (text k) (length w.store) v stage v.now →
      ((label : ℕ) → IsIn label v.frame.alternates → IsIn (IsLabel label) actuals) →
      AllWait S text least want actuals v.frame.base (of_others stage w.transfer) below → NowHas (Has S (text k) (length w.store)) v.now →
      RunAgrees S text least (Runs k v below w)
  it_is_over : (e : Ending) (frames : List (Active fortran_sorts)) (w : World) → RunAgrees S text least (Over e frames w)
  it_is_broken : (reason : Act) (ks : List ℕ) → RunAgrees S text least (Broken reason ks)

module _ (lists : EachListIsMeant) (steps : EachStepIsMeant) (starts : EachStartIsMeant) (answers : EachAnswerIsMeant) (g : Setting) (S : List ProgramUnit)
    (formed : AreWellFormed g S) (agree : (k : ℕ) → LinesAgree S (facts_at g k (slice_get S k))) where
  abbrev Agreed : RunState → Type 0
  Agreed x = RunAgrees S (texts g S) (length g.sizes) x

  all_agree : (k n : ℕ) → EachHas (Has S (texts g S k) n) (texts g S k).program.lines
  all_agree k n = each_from (Has S (texts g S k) n) (texts g S k).program.lines (agree k n)

  answer_entered : (j : ℕ) (v : View) (below : List (Active fortran_sorts)) (want : Wanted) (stage : Option Direction) (count : ℕ) (others : List Datum) (w : World)
      (entry : Entry fortran_sorts) (from : List ℕ) → IsWellFormed (texts g S j) (length g.sizes) → IsStaged (texts g S j).program count stage w.transfer →
      ((label : ℕ) → IsIn label v.frame.alternates → IsIn (IsLabel label) others) →
      AllWait S (texts g S) (length g.sizes) want others v.frame.base (of_others stage w.transfer) below →
      Resumes (texts g S j) (length g.sizes) want count stage v w entry → EntryHas (Has S (texts g S j) count) entry → Agreed (entering entry from j below)
  unfolding entering EntryHas
  answer_entered j v below want stage count others w entry from formed_j staged knows waiting (holding.it_is_refused reason named) has = it_is_broken reason from
  answer_entered j v below want stage count others w entry from formed_j staged knows waiting (holding.it_resumes v' w' frame height transfer active) has =
      it_runs j v' below w' want stage others
      (record {
        formed = formed_j;
        holding = subst (λ n. IsHolding (texts g S j) (length g.sizes) want n v') (sym height) active.holding;
        staged = subst (λ t. IsStaged (texts g S j).program (length w'.store) stage t) (sym transfer) (subst (λ n. IsStaged (texts g S j).program n stage w.transfer) (sym height) staged);
      })
      (subst (λ n. IsNext (texts g S j) n v' stage v'.now) (sym height) active.next)
      (λ label is. knows label (subst (λ f. IsIn label f.alternates) frame is))
      (subst (λ f. AllWait S (texts g S) (length g.sizes) want others f.base (of_others stage w'.transfer) below) (sym frame)
      (subst (λ t. AllWait S (texts g S) (length g.sizes) want others v.frame.base (of_others stage t) below) (sym transfer) waiting))
      (subst (λ n. NowHas (Has S (texts g S j) n) v'.now) (sym height) has)

  answered : (k : ℕ) (want : Wanted) (actuals : List Datum) (base : ℕ) (below : List (Active fortran_sorts)) (w : World) (d : Datum) (labels : ℕ → Type 0) →
      base ≤ length w.store → ((label : ℕ) → labels label → IsIn (IsLabel label) actuals) → IsReply labels want d →
      AllWait S (texts g S) (length g.sizes) want actuals base w.transfer below → Agreed (answering fortran (program g S) k below w d)
  unfolding answering program
  answered k want actuals base [] w d labels high knows reply waiting = it_is_over _ [] w
  answered k want actuals base (HasView j v ∷ below) w d labels high knows reply
      (one_waits _ _ _ wanted _ stage count _ _ others _ formed_j held waits upto staged known agreed waiting) =
      answer_entered j v below wanted stage count others w (resume (texts g S j) v d w) (k ∷ j ∷ numbers below) formed_j staged known waiting
      (answers (texts g S j) (length g.sizes) wanted want count stage actuals v d w formed_j held waits (omega arith)
      (reply_for labels (λ label. IsIn (IsLabel label) actuals) want d knows reply))
      (resume_has S (texts g S j) count (all_agree j count) v want d w (reply_is_answer labels count want d reply) agreed)

  begun_unless : (b : Bool) (j : ℕ) (v : View) (w : World) (below : List (Active fortran_sorts)) → Agreed (Runs j v below w) →
      Agreed (unless_active b ActiveProcedure v w j below)
  unfolding unless_active
  begun_unless true j v w below agreed = it_is_broken ActiveProcedure (numbers below)
  begun_unless false j v w below agreed = agreed

  opened : (j : ℕ) (p : Passed) (w : World) (below : List (Active fortran_sorts)) (entry : Entry fortran_sorts) → IsWellFormed (texts g S j) (length g.sizes) →
      ((base : ℕ) → base ≡ length w.store → AllWait S (texts g S) (length g.sizes) p.want p.actuals base w.transfer below) →
      Begins (texts g S j) (length g.sizes) p w entry → ((n : ℕ) → EntryHas (Has S (texts g S j) n) entry) → Agreed (opening fortran entry j below)
  unfolding opening of_others EntryHas
  opened j p w below entry formed_j waiting (holding.it_refuses reason named) has = it_is_broken reason (numbers below)
  opened j p w below entry formed_j waiting (holding.it_enters v w' more transfer base active knows) has =
      begun_unless (active_among j below) j v w' below
      (it_runs j v below w' p.want None p.actuals
      (record { formed = formed_j; holding = active.holding; staged = holding.not_in_one w'.transfer })
      active.next knows
      (subst (λ t. AllWait S (texts g S) (length g.sizes) p.want p.actuals v.frame.base t below) (sym transfer) (waiting v.frame.base base))
      (has (length w'.store)))

  called : (name : Called) (p : Passed) (w : World) (below : List (Active fortran_sorts)) (o : Option ℕ) → found_from 0 S name ≡ o →
      length g.sizes ≤ length w.store → IsPassed (length w.store) p →
      ((base : ℕ) → base ≡ length w.store → AllWait S (texts g S) (length g.sizes) p.want p.actuals base w.transfer below) →
      Agreed (calling fortran (program g S) o name p w below)
  unfolding calling program
  called name p w below None found high is waiting = it_is_broken MissingProcedure (numbers below)
  called name p w below (Some j) found high is waiting =
      let it : IsFound g S name j = is_found g S name j formed found in
      opened j p w below (start (texts g S j) name p w) it.formed waiting (starts (texts g S j) (length g.sizes) name p w it.formed it.answers high is)
      (λ n. start_has (Has S (texts g S j) n) (texts g S j) (all_agree j n) name p w)

  acted : (k : ℕ) (v : View) (below : List (Active fortran_sorts)) (w : World) (want : Wanted) (stage : Option Direction) (actuals : List Datum) (happening : Happening) →
      IsReady (texts g S k) (length g.sizes) want stage v w → ((label : ℕ) → IsIn label v.frame.alternates → IsIn (IsLabel label) actuals) →
      AllWait S (texts g S) (length g.sizes) want actuals v.frame.base (of_others stage w.transfer) below →
      Happens (texts g S k) (length g.sizes) want stage v w happening → EventAgrees S (texts g S k) (length w.store) happening →
      Agreed (act fortran (program g S) happening k below)
  unfolding act program of_others EventAgrees
  acted k v below w want stage actuals happening ready knows waiting (holding.it_goes later v' w' frame height active staged others) has =
      it_runs k v' below w' want later actuals
      (record {
        formed = ready.formed;
        holding = subst (λ n. IsHolding (texts g S k) (length g.sizes) want n v') (sym height) active.holding;
        staged = subst (λ n. IsStaged (texts g S k).program n later w'.transfer) (sym height) staged;
      })
      (subst (λ n. IsNext (texts g S k) n v' later v'.now) (sym height) active.next)
      (λ label is. knows label (subst (λ f. IsIn label f.alternates) frame is))
      (subst (λ t. AllWait S (texts g S) (length g.sizes) want actuals v'.frame.base t below) (sym others)
      (subst (λ f. AllWait S (texts g S) (length g.sizes) want actuals f.base (of_others stage w.transfer) below) (sym frame) waiting))
      (subst (λ n. NowHas (Has S (texts g S k) n) v'.now) (sym height) has)
  acted k v below w want stage actuals happening ready knows waiting (holding.it_ends e v' w' ends) has = it_is_over e (HasView k v' ∷ below) w'
  acted k v below w want stage actuals happening ready knows waiting (holding.it_breaks reason named) has = it_is_broken reason (k ∷ numbers below)
  acted k v below w want stage actuals happening ready knows waiting (holding.it_answers w' d outside high transfer reply) has =
      answered k want actuals v.frame.base below w' d (λ label. IsIn label v.frame.alternates) high knows reply
      (subst (λ t. AllWait S (texts g S) (length g.sizes) want actuals v.frame.base t below) (sym transfer)
      (subst (λ o. AllWait S (texts g S) (length g.sizes) want actuals v.frame.base (of_others o w.transfer) below) outside waiting))
  acted k v below w want stage actuals happening ready knows waiting (holding.it_calls v' w' name p frame higher transfer held waits is) has =
      called name p w' (HasView k v' ∷ below) (found_from 0 S name) refl (omega arith) is
      (λ base at. one_waits k v' below want p.want stage (length w.store) base p.actuals actuals w'.transfer ready.formed held waits (omega arith)
      (subst (λ t. IsStaged (texts g S k).program (length w.store) stage t) (sym transfer) ready.staged)
      (λ label in_frame. knows label (subst (λ f. IsIn label f.alternates) frame in_frame)) has
      (subst (λ t. AllWait S (texts g S) (length g.sizes) want actuals v'.frame.base (of_others stage t) below) (sym transfer)
      (subst (λ f. AllWait S (texts g S) (length g.sizes) want actuals f.base (of_others stage w.transfer) below) (sym frame) waiting)))

  next_agrees : (x : RunState) → Agreed x → Agreed (next fortran (program g S) x)
  unfolding next program
  next_agrees x (it_is_over e frames w) = it_is_over e frames w
  next_agrees x (it_is_broken reason ks) = it_is_broken reason ks
  next_agrees x (it_runs k v below w want stage actuals ready is_next knows waiting has) =
      acted k v below w want stage actuals (step (texts g S k) v w) ready knows waiting (steps (texts g S k) (length g.sizes) want stage v w ready is_next)
      (step_agrees lists S (texts g S k) v w ready.holding.sound (all_agree k (length w.store)) (agree k (length w.store)) has)

  run_agrees : (n : ℕ) (x : RunState) → Agreed x → Agreed (run fortran (program g S) n x)
  unfolding run
  run_agrees zero x agreed = agreed
  run_agrees (suc n) x agreed = next_agrees (run fortran (program g S) n x) (run_agrees n x agreed)

  started_agrees : (units : Units) → Agreed (started g S units)
  unfolding started begun program call_of_main
  started_agrees units =
      let begins : (length (start_world g S units).store ≡ length g.sizes) × ((start_world g S units).transfer ≡ None) = start_begins g S units in
      called TheMain call_of_main (start_world g S units) [] (found_from 0 S TheMain) refl (subst (λ n. length g.sizes ≤ n) (sym begins.0) (omega arith))
      (record { sorts = []; operands = none_of; place = holding.for_subroutine })
      (λ base at. subst (λ t. AllWait S (texts g S) (length g.sizes) AsSubroutine [] base t []) (sym begins.1) (none_waits [] base))

  pub each_state : (units : Units) (n : ℕ) → RunAgrees S (texts g S) (length g.sizes) (ftn g S units n)
  unfolding ftn
  each_state units n = run_agrees n (started g S units) (started_agrees units)
