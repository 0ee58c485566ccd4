-- A call of the text passes what FORTRAN's passes, and behind each answer both go on.
use Rattle.std.specs.Prelude.{◌≡◌, ℕ, ℤ, suc, ◌+◌, ◌≤◌, true, List, [], ◌∷◌, length, map, Option, Some, None, slice_get}
use Rattle.std.proofs.Common.{refl, sym, ap, ◌∙◌, subst, arith}
use Rattle.std.proofs.lemmas.List.{length-map}
use Rattle.fortran_laws.specs.simulation.Machine.{Goes, Calls, Enters}
use Rattle.fortran_laws.specs.f_tree.declared.names.Basic.TheVariants as basic
use Rattle.fortran_laws.specs.f_tree.Values.{Bytes, Datum, IsInt, Nothing, Checked, Gives, Fails}
use Rattle.fortran_laws.specs.f_tree.Terms.{Wanted, AsSubroutine, AsFunction, Callee}
use Rattle.fortran_laws.specs.f_tree.Facts.{Line, Frame}
use Rattle.fortran_laws.specs.f_tree.World as fortran
use Rattle.fortran_laws.specs.f_tree.World.{World, Round, Called, Procedure, Passed, proceeding, entered}
use Rattle.fortran_laws.specs.f_tree.Places.{passed, gone_to}
use Rattle.fortran_laws.specs.f_tree.Nests.{loop_of, open_at}
use Rattle.fortran_laws.specs.f_tree.Step.{contains, nth_label}
use Rattle.fortran_laws.specs.f_tree.Association.{Passing, passing, ready_for, called_as, procedure_named, call, returned, resumed_by, cut_to, alternate_of}
use Rattle.fortran_laws.specs.f_tree.Association as association
use Rattle.lowering.specs.l_core.Pures.{Pures, Temporaries, with_kept}
use Rattle.lowering.specs.l_core.Steps.{CallFor, CallSub, Branch, Way, Text}
use Rattle.lowering.specs.l_core.Machine.{View, Doing, passed_by, calling, waiting, resting, resumed_at, gone_on, resume}
use Rattle.lowering.specs.Statements.{call_steps}
use Rattle.lowering.specs.Units.{free_at}
use Rattle.lowering_laws.specs.Walks.{Spans, at_step}
use Rattle.lowering_laws.specs.Layer.{IsNoLabel, labels_in, labels_for, IsGiven, Found, IsCalled, Leads, there, Arrives, plainly, by_branch, by_way, ends_of, AreRounds, Reaches, IsLaidOut, IsMatched}
use Rattle.lowering_laws.proofs.WalkLemmas.{spans_one, spans_first, spans_length, kept_above, kept_there}
use Rattle.lowering_laws.proofs.LabelLemmas.{Suited, passing_labels}
use Rattle.lowering_laws.proofs.PickedLabels.{nth_contained, step_stands, passes_to, passes_all, answered_label, alternate_is, none_answered}
use Rattle.lowering_laws.proofs.PlaceLemmas.{GoesOn, Alike, rounds_same, passes_on, branches_to_label}

unfoldable pub went : View → World → Doing
went v w = Goes v w

pub goes_same : (x y : View) (w : World) → went x w ≡ went y w → x ≡ y
unfolding went
goes_same x y w e = (let same : x ≡ y = cc in same)

-- what a function answers is the same in both runs, and no label
pub function_given : (want : Wanted) (labels : List ℕ) (r r' : Datum) → (want ≡ AsSubroutine → ⊥) → IsGiven want labels r r' → (r ≡ r') × IsNoLabel r
function_given AsSubroutine labels r r' function given = absurd (function refl)
function_given (AsFunction basic width) labels r r' function given = given

pub gives_function : (want : Wanted) (labels : List ℕ) (r : Datum) → (want ≡ AsSubroutine → ⊥) → IsNoLabel r → IsGiven want labels r r
gives_function AsSubroutine labels r function none = absurd (function refl)
gives_function (AsFunction basic width) labels r function none = (refl, none)

pub suited_by : (want : Wanted) (d : Datum) → IsNoLabel d → Suited want d
suited_by AsSubroutine d none = tt
suited_by (AsFunction basic width) d none = none

module _ (u : Text) (f : Frame) (h : ℕ) (μ : Found) (w : World) (i at : ℕ) (m : Temporaries) (rounds : List Round) (o : Type 0) (followed : o) (callee : Callee) (ds : List Datum) (wait : ℕ → fortran.Now) where
  -- behind each answer the text goes on as FORTRAN does
  abbrev Resumes : List ℕ → Type 0
  Resumes labels =
      (s : World) (r : Datum) (t : World) (r' : Datum) → (s ≡ t) × (s.transfer ≡ w.transfer) × IsGiven callee.want labels r r' →
      GoesOn u μ (association.resume u.facts (record { frame = f; at = i; now = wait (length w.store); loops = rounds }) r s) (at_step f (length w.store) at m) r' t

  one_call : (w' : World) (name : Called) (a : Passed) (labels : List ℕ) → callee.want ≡ a.want → Resumes labels → w'.transfer ≡ w.transfer → labels_for a.want a.actuals ≡ labels → (e : Doing) →
      e ≡ Calls (at_step f (length w.store) at m) w' name a → Alike u μ o (Calls (record { frame = f; at = i; now = wait (length w.store); loops = rounds }) w' name a) e
  one_call w' name a labels wants resumes transfer passed' e is =
      record { view = at_step f (length w.store) at m; is = is; labels = labels; passed = passed'; frame = refl; followed = followed; goes_on = λ s r t r' given. resumes s r t r' (given.0, given.1 ∙ transfer, subst (λ z. IsGiven z labels r r') (sym wants) given.2) }

  readied : (want : Wanted) (x : Passing) (name : Called) → callee.want ≡ want → labels_in x.actuals ≡ labels_in ds → Resumes (labels_for want ds) → (e : Doing) →
      e ≡ waiting (at_step f (length w.store) at m) (ready_for want x w (record (resting f) { now = fortran.Returning (length w.store) }) name) →
      Alike u μ o (ready_for want x w (record { frame = f; at = i; now = wait (length w.store); loops = rounds }) name) e
  unfolding ready_for waiting
  readied AsSubroutine x name wants labels resumes e is = one_call (record w { store = x.store }) name _ (labels_in ds) wants resumes refl labels e is
  readied (AsFunction basic.Character width) x name wants labels resumes e is = one_call (record w { store = _ }) name _ [] wants resumes refl refl e is
  readied (AsFunction basic.Integer width) x name wants labels resumes e is = one_call (record w { store = x.store }) name _ [] wants resumes refl refl e is
  readied (AsFunction basic.Logical width) x name wants labels resumes e is = one_call (record w { store = x.store }) name _ [] wants resumes refl refl e is
  readied (AsFunction basic.Untyped width) x name wants labels resumes e is = one_call (record w { store = x.store }) name _ [] wants resumes refl refl e is

  named : (x : Checked Bytes) (y : Passing) → labels_in y.actuals ≡ labels_in ds → Resumes (labels_for callee.want ds) → (e : Doing) →
      e ≡ waiting (at_step f (length w.store) at m) (called_as x callee.want y w (record (resting f) { now = fortran.Returning (length w.store) })) →
      Alike u μ o (called_as x callee.want y w (record { frame = f; at = i; now = wait (length w.store); loops = rounds })) e
  unfolding called_as
  named (Gives name) y labels resumes e is = readied callee.want y (Procedure name) refl labels resumes e is
  named (Fails act) y labels resumes e is = tt

  pub call_alike : (now : fortran.Now) → Resumes (labels_for callee.want ds) → (e : Doing) → e ≡ calling u (at_step f h at m) w callee (Gives ds) →
      Alike u μ o (call u.facts (record { frame = f; at = i; now = now; loops = rounds }) w callee ds wait) e
  unfolding call calling resting
  call_alike now resumes e is = named (procedure_named f callee.name (u.facts.program.attribute callee.name)) (passing w.store ds) (passing_labels ds w.store) resumes e is

-- ## Behind a CALL

module _ (u : Text) (laid : IsLaidOut u) (f : Frame) (height : ℕ) (μ : Found) (called : IsCalled u.facts.program.kind f μ) (i at k : ℕ) (m : Temporaries) (rounds : List Round) (line : Line) (place : slice_get u.facts.program.lines i ≡ Some line) (quiet : loop_of line.form ≡ None) (stand : AreRounds u f m (open_at u.facts.program i) rounds) (enough : free_at u.facts.program i ≤ k) (low : u.begins i ≤ at) (name : Bytes) (ps : Pures) where
  -- the loops where the answer is kept
  still_stand : (d : Datum) → AreRounds u f (with_kept k d m) (open_at u.facts.program i) rounds
  still_stand d = rounds_same u laid f m (with_kept k d m) i rounds (kept_above (free_at u.facts.program i) k d m enough) stand

  -- a waiting text, and a place that FORTRAN comes to
  entered_on : (x : Checked fortran.View) (d r : Datum) (s : World) → resume u (at_step f height at m) r s ≡ Enters (at_step f height (suc at) (with_kept k d m)) (cut_to height s) →
      Alike u μ (Unit {0}) (proceeding x (cut_to height s)) (Goes (at_step f height (suc at) (with_kept k d m)) (cut_to height s)) → GoesOn u μ (entered x (cut_to height s)) (at_step f height at m) r s
  unfolding entered proceeding went
  entered_on (Gives v) d r s resumes alike = (
    at_step f height (suc at) (with_kept k d m),
    cut_to height s,
    resumes,
    subst (λ x. IsMatched u μ v (cut_to height s) x (cut_to height s)) (sym (goes_same (at_step f height (suc at) (with_kept k d m)) alike.view (cut_to height s) alike.is)) alike.matched,
  )
  entered_on (Fails act) d r s resumes alike = tt

  -- on behind the statement
  passed_back : (d r : Datum) (s : World) → s.transfer ≡ μ.transfer → resume u (at_step f height at m) r s ≡ Enters (at_step f height (suc at) (with_kept k d m)) (cut_to height s) →
      Arrives u (with_kept k d m) (u.begins i) (suc at) (ends_of u i) → GoesOn u μ (entered (passed u.facts.program f rounds i) (cut_to height s)) (at_step f height at m) r s
  unfolding cut_to
  passed_back d r s same resumes arrives' =
      entered_on (passed u.facts.program f rounds i) d r s resumes (passes_on u laid f height μ (cut_to height s) (with_kept k d m) same called (Unit {0}) rounds i (suc at) line place quiet (still_stand d) arrives')

  -- without a label
  plain_resumes : (z : ℤ) (s : World) → slice_get u.steps at ≡ Some (CallSub k name ps) → resume u (at_step f height at m) (IsInt z) s ≡ Enters (at_step f height (suc at) (with_kept k Nothing m)) (cut_to height s)
  unfolding resume resumed_at gone_on
  plain_resumes z s call' = ap (λ st. resumed_at st (at_step f height at m) (IsInt z) s) call'

  plain_back : (z : ℤ) (s : World) → s.transfer ≡ μ.transfer → Spans u at (CallSub k name ps ∷ []) (ends_of u i) →
      GoesOn u μ (returned u.facts (record { frame = f; at = i; now = fortran.Returning height; loops = rounds }) Nothing (cut_to height s)) (at_step f height at m) (IsInt z) s
  unfolding returned
  plain_back z s same spans =
      let one = spans_one u spans in
      passed_back Nothing (IsInt z) s same (plain_resumes z s one.0) (plainly (omega (arith, low)) (subst (λ z. Leads u (suc at) z) (sym one.1) there))

  -- with some, past all ways or by the one that is picked
  answer_resumes : (z : ℤ) (s : World) → slice_get u.steps at ≡ Some (CallFor k (record { name = name; want = AsSubroutine }) ps) →
      resume u (at_step f height at m) (IsInt z) s ≡ Enters (at_step f height (suc at) (with_kept k (IsInt z) m)) (cut_to height s)
  unfolding resume resumed_at gone_on
  answer_resumes z s call' = ap (λ st. resumed_at st (at_step f height at m) (IsInt z) s) call'

  branched_back : (labels : List ℕ) (z : ℤ) (x : Option ℕ) (s : World) → nth_label labels z ≡ x → s.transfer ≡ μ.transfer → Spans u at (CallFor k (record { name = name; want = AsSubroutine }) ps ∷ Branch k (length labels) ∷ map Way labels) (ends_of u i) →
      ((l : ℕ) → contains labels l ≡ true → Reaches u.facts.program i l) →
      GoesOn u μ (returned u.facts (record { frame = f; at = i; now = fortran.Returning height; loops = rounds }) (answered_label x) (cut_to height s)) (at_step f height at m) (IsInt z) s
  unfolding returned cut_to
  branched_back labels z None s e same spans reach =
      let one = spans_first u spans in
      let two = spans_first u one.1 in
      let end : suc (suc at) + passed_by (length labels) z ≡ ends_of u i = ap (λ n. suc (suc at) + n) (passes_all labels z e ∙ sym (length-map labels Way)) ∙ sym (spans_length u two.1) in
      passed_back (IsInt z) (IsInt z) s same (answer_resumes z s one.0)
      (by_branch (record { kept = k; count = length labels; number = z; there = two.0; holds = kept_there k (IsInt z) m; past = end }) (omega (arith, low, end)) there)
  branched_back labels z (Some l) s e same spans reach =
      let one = spans_first u spans in
      let two = spans_first u one.1 in
      let way = step_stands u Way labels (passed_by (length labels) z) l two.1 (passes_to labels z l e) in
      entered_on (gone_to u.facts.program f rounds l) (IsInt z) (IsInt z) s (answer_resumes z s one.0)
      (branches_to_label u laid f height μ (cut_to height s) (with_kept k (IsInt z) m) same called (Unit {0}) rounds i l (suc at) (still_stand (IsInt z)) (reach l (nth_contained labels z l e))
      (λ j e'. by_way l (record { kept = k; count = length labels; number = z; there = two.0; holds = kept_there k (IsInt z) m; past = refl }) way e' (omega arith) there))

  answered_back : (labels : List ℕ) (z : ℤ) (s : World) → s.transfer ≡ μ.transfer → Spans u at (call_steps k name labels ps) (ends_of u i) → ((l : ℕ) → contains labels l ≡ true → Reaches u.facts.program i l) →
      GoesOn u μ (returned u.facts (record { frame = f; at = i; now = fortran.Returning height; loops = rounds }) (alternate_of labels z) (cut_to height s)) (at_step f height at m) (IsInt z) s
  unfolding call_steps
  answered_back [] z s same spans reach =
      subst (λ d. GoesOn u μ (returned u.facts (record { frame = f; at = i; now = fortran.Returning height; loops = rounds }) d (cut_to height s)) (at_step f height at m) (IsInt z) s) (sym (none_answered z)) (plain_back z s same spans)
  answered_back (l ∷ ls) z s same spans reach =
      subst (λ d. GoesOn u μ (returned u.facts (record { frame = f; at = i; now = fortran.Returning height; loops = rounds }) d (cut_to height s)) (at_step f height at m) (IsInt z) s) (sym (alternate_is (l ∷ ls) z))
      (branched_back (l ∷ ls) z (nth_label (l ∷ ls) z) s refl same spans reach)

  pub called_back : (labels : List ℕ) → Spans u at (call_steps k name labels ps) (ends_of u i) → ((l : ℕ) → contains labels l ≡ true → Reaches u.facts.program i l) →
      (s : World) (r : Datum) (t : World) (r' : Datum) → (s ≡ t) × (s.transfer ≡ μ.transfer) × IsGiven AsSubroutine labels r r' →
      GoesOn u μ (association.resume u.facts (record { frame = f; at = i; now = fortran.Returning height; loops = rounds }) r s) (at_step f height at m) r' t
  unfolding association.resume resumed_by
  called_back labels spans reach s r t r' given =
      subst (λ z. GoesOn u μ (returned u.facts (record { frame = f; at = i; now = fortran.Returning height; loops = rounds }) r (cut_to height s)) (at_step f height at m) r' z) given.0
      (subst (λ d. GoesOn u μ (returned u.facts (record { frame = f; at = i; now = fortran.Returning height; loops = rounds }) r (cut_to height s)) (at_step f height at m) d s) (sym given.2.1)
      (subst (λ d. GoesOn u μ (returned u.facts (record { frame = f; at = i; now = fortran.Returning height; loops = rounds }) d (cut_to height s)) (at_step f height at m) (IsInt given.2.0) s) (sym given.2.2)
      (answered_back labels given.2.0 s given.1 spans reach)))
