-- Each step of a unit is followed by the steps of its text.
use Rattle.std.specs.Prelude.{◌≡◌, ℕ, suc, ◌+◌, ◌≤◌, ℤ, pos, int_lt, Bool, true, false, not, ◌&&◌, List, [], ◌∷◌, length, map, Option, Some, None, slice_get, bytes_eq, if◌then◌else◌}
use Rattle.std.specs.Ordering.{int_eq}
use Rattle.std.proofs.Common.{refl, sym, ap, ◌∙◌, subst, arith}
use Rattle.std.proofs.lemmas.List.{length-map}
use Rattle.fortran_laws.specs.simulation.Machine.{Goes, Ends, Answers, Breaks}
use Rattle.fortran_laws.specs.f_tree.Values as value
use Rattle.fortran_laws.specs.f_tree.Values.{Bytes, Spot, Datum, IsInt, IsLog, IsSpot, Nothing, BadAssignedLabel, Checked, Gives, Fails, given_that}
use Rattle.fortran_laws.specs.f_tree.Terms.{IsLess, IsEqual, AsSubroutine, Terms}
use Rattle.fortran_laws.specs.f_tree.Store.{Store, Whole, Label, Number, Truth, define, define_label, label_at, fetch}
use Rattle.fortran_laws.specs.f_tree.Facts.{ToSet, ToSetLabel, ToGo, ToPick, ToGoAssigned, ToGoBySign, ToGuard, ToEnterArm, ToTestLoop, ToCall, ToReturn, ToStop, ToBegin, ToTransfer, ToFinish, ToAuxiliary, ToEnd, Head, Form, Passes, On, Line, UnitKind, MainProgram, SubroutineUnit, FunctionUnit, BlockDataUnit, Frame, ToLoop}
use Rattle.fortran_laws.specs.f_tree.Valuing.{operated, on_integers, left_of}
use Rattle.fortran_laws.specs.f_tree.World as fortran
use Rattle.fortran_laws.specs.f_tree.World.{World, Round, While, Happening, proceeding}
use Rattle.fortran_laws.specs.f_tree.Nests.{loop_of, open_at}
use Rattle.fortran_laws.specs.f_tree.Association.{answer, alternate_of, result_from, result_given, cut_to}
use Rattle.fortran_laws.specs.f_tree.Places.{place_of_label, terminal_of, arm_after, passed, gone_to}
use Rattle.fortran_laws.specs.f_tree.Step.{onward, go, onward_with, guarded, arm_entered, loop_tested, nth_label, contains, labels_to_go, enters_block, name_of, gone_by, by_sign, deed, stop_ending}
use Rattle.fortran_laws.specs.f_tree.Step as source
use Rattle.lowering.specs.l_core.Pures.{Pure, Constant, Operated, Pures, NoPure, AndPure, Temporaries, where_wanted, meant, all_meant}
use Rattle.lowering.specs.l_core.Steps.{Acting, Starts, Takes, Finishes, Auxiliary, Step, Put, PutLabel, Unless, Jump, Select, JumpBy, CallFor, CallSub, Back, BackBy, Halt, Acts, Text}
use Rattle.lowering.specs.l_core.Machine.{Doing, step, done, storing, put_at, put_label_at, testing, to, jump, passed_by, selecting, label_held, passed_before, jumping, calling, answering, answering_by, resting, course_of, coursing, acting}
use Rattle.lowering.specs.l_core.Machine as target
use Rattle.lowering_laws.specs.Walks.{IsNoBranch, Spans, at_step, IsOrdinary, Keeps, stays, goes}
use Rattle.lowering_laws.specs.Layer.{IsNoLabel, labels_in, IsGiven, Found, KnowsCall, IsCalled, IsCall, IsFollowed, Leads, there, Arrives, plainly, ends_of, AllBefore, AreRounds, Reaches, BranchesWell, HeadBranches, BranchesNow, HasTransfer, IsFlat, IsNextArm, IsLoop, IsClosing, for_set, for_set_label, for_go, for_pick, for_go_assigned, for_go_by_sign, for_guard, for_arm, for_test, for_call, for_return, for_return_by, for_stop, for_end, for_begin, for_item, for_finish, for_auxiliary, by_sign_steps, IsCode, Stands, IsLaidOut, IsPart, is_whole, is_under, for_loop}
use Rattle.lowering_laws.proofs.WalkLemmas.{ordinary_by, spans_one, spans_first, spans_length}
use Rattle.lowering.specs.Statements.{labels_written, hides_labels, call_steps}
use Rattle.lowering.specs.Units.{free_at, loop_exit}
use Rattle.lowering_laws.proofs.LabelLemmas.{fetch_none}
use Rattle.lowering_laws.proofs.PickedLabels.{nth_contained, step_stands, passes_to, passes_all}
use Rattle.lowering_laws.proofs.HeldLabels.{held_there}
use Rattle.lowering_laws.proofs.CallLemmas.{gives_function, call_alike, called_back}
use Rattle.lowering_laws.proofs.TransferLemmas.{begin_alike, item_alike, finish_alike, auxiliary_alike}
use Rattle.lowering_laws.proofs.PlaceLemmas.{code_stands, Alike, part_quiet, now_branches, at_form, leads_to_end, comes_to, arrives, next_arm_at, passes_behind, passes_on, goes_to_label}

-- ## Values of operands

record TwoValues (c : _) (f : Frame) (m : Temporaries) (s : Store) (p q : Pure) (ds : List Datum) : Type 0 where
  first : Datum
  second : Datum
  first_is : meant c f m s p ≡ Gives first
  second_is : meant c f m s q ≡ Gives second
  are : ds ≡ first ∷ second ∷ []

two_by : (c : _) (f : Frame) (m : Temporaries) (s : Store) (p q : Pure) (ds : List Datum) (x y : Checked Datum) → meant c f m s p ≡ x → meant c f m s q ≡ y →
    given_that x (λ d. given_that (given_that y (λ d. given_that (Gives []) (λ es. Gives (d ∷ es)))) (λ es. Gives (d ∷ es))) ≡ Gives ds → TwoValues c f m s p q ds
unfolding given_that
two_by c f m s p q ds (Gives a) (Gives b) e e' is = record { first = a; second = b; first_is = e; second_is = e'; are = (let all : ds ≡ a ∷ b ∷ [] = cc in all) }
two_by c f m s p q ds (Gives a) (Fails act) e e' is = absurd (cc)
two_by c f m s p q ds (Fails act) y e e' is = absurd (cc)

two_values : (c : _) (f : Frame) (m : Temporaries) (s : Store) (p q : Pure) (ds : List Datum) → all_meant c f m s (AndPure p (AndPure q NoPure)) ≡ Gives ds → TwoValues c f m s p q ds
unfolding all_meant
two_values c f m s p q ds is = two_by c f m s p q ds (meant c f m s p) (meant c f m s q) refl refl is

pub record OneValue (c : _) (f : Frame) (m : Temporaries) (s : Store) (p : Pure) (ds : List Datum) : Type 0 where
  pub first : Datum
  pub first_is : meant c f m s p ≡ Gives first
  pub are : ds ≡ first ∷ []

one_by : (c : _) (f : Frame) (m : Temporaries) (s : Store) (p : Pure) (ds : List Datum) (x : Checked Datum) → meant c f m s p ≡ x → given_that x (λ d. given_that (Gives []) (λ es. Gives (d ∷ es))) ≡ Gives ds → OneValue c f m s p ds
unfolding given_that
one_by c f m s p ds (Gives a) e is = record { first = a; first_is = e; are = (let all : ds ≡ a ∷ [] = cc in all) }
one_by c f m s p ds (Fails act) e is = absurd (cc)

pub one_value : (c : _) (f : Frame) (m : Temporaries) (s : Store) (p : Pure) (ds : List Datum) → all_meant c f m s (AndPure p NoPure) ≡ Gives ds → OneValue c f m s p ds
unfolding all_meant
one_value c f m s p ds is = one_by c f m s p ds (meant c f m s p) refl is

no_value : (c : _) (f : Frame) (m : Temporaries) (s : Store) (ds : List Datum) → all_meant c f m s NoPure ≡ Gives ds → ds ≡ []
unfolding all_meant
no_value c f m s ds is = (let none : ds ≡ [] = cc in none)

-- ## What a statement does once its operands are valued

pub whole_form : (form : Form) (j : ℕ) (head : Head) (ts : Terms) → IsPart form (Some j) head ts → form ≡ On head ts
whole_form form j head ts (is_whole e) = e

-- behind a way the text does what FORTRAN does
pub record Led (u : Text) (f : Frame) (h : ℕ) (w : World) (μ : Found) (q : ℕ) (m : Temporaries) (ev : Happening) : Type 0 where
  pub upto : ℕ
  pub kept : Temporaries
  pub way : Keeps u f h w q m upto kept
  pub ordinary : IsOrdinary u upto
  pub alike : Alike u μ (IsFollowed u upto) ev (step u (at_step f h upto kept) w)

module _ (u : Text) (laid : IsLaidOut u) (f : Frame) (h : ℕ) (μ : Found) (w : World) (i q : ℕ) (m : Temporaries) (now : fortran.Now) (same : w.transfer ≡ μ.transfer) (called : IsCalled u.facts.program.kind f μ)
    (rounds : List Round) (stand : AreRounds u f m (open_at u.facts.program i) rounds) (line : Line) (place : slice_get u.facts.program.lines i ≡ Some line) (low : u.begins i ≤ q) where
  -- the statement is done
  done_with : (w' : World) → w'.transfer ≡ μ.transfer → (p : ℕ) → q ≤ p → p ≡ ends_of u i → loop_of line.form ≡ None →
      Alike u μ (IsFollowed u q) (proceeding (passed u.facts.program f rounds i) w') (Goes (at_step f h p m) w')
  done_with w' same' p up end quiet = passes_on u laid f h μ w' m same' called (IsFollowed u q) rounds i p line place quiet stand (plainly (omega (arith, low, up)) (subst (λ z. Leads u p z) end there))

  to_label : (label : ℕ) → Reaches u.facts.program i label → Alike u μ (IsFollowed u q) (proceeding (gone_to u.facts.program f rounds label) w) (jump u label (at_step f h q m) w)
  to_label label reaches = goes_to_label u laid f h μ w m same called (IsFollowed u q) rounds i label q stand reaches

  stored_alike : (x : Checked Store) → loop_of line.form ≡ None → suc q ≡ ends_of u i → Alike u μ (IsFollowed u q) (onward_with u.facts (record { frame = f; at = i; now = now; loops = rounds }) w x) (storing (at_step f h q m) w x)
  unfolding onward_with storing onward target.onward to
  stored_alike (Gives s) quiet end = done_with (record w { store = s }) same (suc q) (omega arith) end quiet
  stored_alike (Fails act) quiet end = tt

  set_alike : (d r : Datum) → loop_of line.form ≡ None → suc q ≡ ends_of u i → Alike u μ (IsFollowed u q) (deed u.facts (record { frame = f; at = i; now = now; loops = rounds }) w ToSet (d ∷ r ∷ [])) (storing (at_step f h q m) w (put_at w.store r d))
  unfolding deed put_at
  set_alike d (IsSpot p) quiet end = stored_alike (define w.store p d) quiet end
  set_alike d (value.IsInt z) quiet end = tt
  set_alike d (value.IsLog b) quiet end = tt
  set_alike d (value.IsText cs) quiet end = tt
  set_alike d (value.IsProc x) quiet end = tt
  set_alike d (value.IsLabel l) quiet end = tt
  set_alike d value.Nothing quiet end = tt

  -- a label that is assigned
  set_label_alike : (label : ℕ) (r : Datum) → loop_of line.form ≡ None → suc q ≡ ends_of u i → Alike u μ (IsFollowed u q) (deed u.facts (record { frame = f; at = i; now = now; loops = rounds }) w (ToSetLabel label) (r ∷ [])) (storing (at_step f h q m) w (put_label_at u w.store label r))
  unfolding deed put_label_at
  set_label_alike label (IsSpot p) quiet end = stored_alike (define_label w.store p (name_of u.facts.program) label) quiet end
  set_label_alike label (value.IsInt z) quiet end = tt
  set_label_alike label (value.IsLog b) quiet end = tt
  set_label_alike label (value.IsText cs) quiet end = tt
  set_label_alike label (value.IsProc x) quiet end = tt
  set_label_alike label (value.IsLabel l) quiet end = tt
  set_label_alike label value.Nothing quiet end = tt

  -- what a logical IF guards
  under_alike : (k : ℕ) (form : Form) → free_at u.facts.program i ≡ k → loop_of line.form ≡ None → BranchesWell u.facts.program i form → Stands u k None form (suc q) (ends_of u i) →
      Alike u μ (IsFollowed u q) (guarded u.facts (record { frame = f; at = i; now = now; loops = rounds }) w form true) (Goes (at_step f h (suc q) m) w)
  unfolding guarded onward
  under_alike k Passes enough quiet well stands =
      passes_on u laid f h μ w m same called (IsFollowed u q) rounds i (suc q) line place quiet stand (plainly (omega (arith, low)) (leads_to_end u laid f h μ w m same called (IsFollowed u q) k None (suc q) (ends_of u i) Passes stands refl))
  under_alike k (On head ts) enough quiet well stands =
      comes_to u laid f h μ w m same called (IsFollowed u q) rounds i (suc q) head ts well stand
      (at_form u laid.returns f m k None i (suc q) (suc q) enough (λ j e. absurd (cc)) line place (omega (arith, low)) (On head ts) (λ head' ts' e. is_under quiet)
      (now_branches u.facts.program i head ts well) stands (plainly (omega arith) there) head ts refl)

  past_alike : (form : Form) (under : List Step) → loop_of line.form ≡ None → Spans u (suc q) under (ends_of u i) →
      Alike u μ (IsFollowed u q) (guarded u.facts (record { frame = f; at = i; now = now; loops = rounds }) w form false) (Goes (at_step f h (suc q + length under) m) w)
  unfolding guarded onward
  past_alike form under quiet spans = done_with w same (suc q + length under) (omega arith) (sym (spans_length u spans)) quiet

  guard_alike : (k : ℕ) (form : Form) (under : List Step) (d : Datum) → free_at u.facts.program i ≡ k → loop_of line.form ≡ None → BranchesWell u.facts.program i form → IsCode u k None form under → Spans u (suc q) under (ends_of u i) →
      Alike u μ (IsFollowed u q) (deed u.facts (record { frame = f; at = i; now = now; loops = rounds }) w (ToGuard form) (d ∷ [])) (testing (suc q) (suc q + length under) (at_step f h q m) w (Gives d))
  unfolding deed testing to
  guard_alike k form under (IsLog true) enough quiet well code spans = under_alike k form enough quiet well (code_stands u k None form under (suc q) (ends_of u i) code spans)
  guard_alike k form under (IsLog false) enough quiet well code spans = past_alike form under quiet spans
  guard_alike k form under (value.IsInt z) enough quiet well code spans = tt
  guard_alike k form under (value.IsText cs) enough quiet well code spans = tt
  guard_alike k form under (value.IsSpot p) enough quiet well code spans = tt
  guard_alike k form under (value.IsProc x) enough quiet well code spans = tt
  guard_alike k form under (value.IsLabel l) enough quiet well code spans = tt
  guard_alike k form under value.Nothing enough quiet well code spans = tt

  -- the condition of an arm
  entered_alike : (n : ℕ) (d : Datum) → suc q ≡ ends_of u i → IsFlat u i → ((j : ℕ) → arm_after u.facts.program i ≡ Some j → IsNextArm u i n j) →
      Alike u μ (IsFollowed u q) (deed u.facts (record { frame = f; at = i; now = now; loops = rounds }) w ToEnterArm (d ∷ [])) (testing (suc q) (suc q + n) (at_step f h q m) w (Gives d))
  unfolding deed testing to arm_entered
  entered_alike n (IsLog true) end flat next =
      arrives u laid f h μ w m same called (IsFollowed u q) rounds (u.begins i) (suc i) (suc q) (subst (λ z. AreRounds u f m z rounds) (sym flat.same) stand) (subst (AllBefore u (u.begins i)) (sym flat.same) (laid.before i))
      (plainly (omega (arith, low)) (subst (λ z. Leads u (suc q) z) (end ∙ flat.end) there))
  entered_alike n (IsLog false) end flat next = next_arm_at u laid f h μ w m same called (IsFollowed u q) rounds i n (suc q + n) now (arm_after u.facts.program i) stand (ap (λ z. z + n) end) next
  entered_alike n (value.IsInt z) end flat next = tt
  entered_alike n (value.IsText cs) end flat next = tt
  entered_alike n (value.IsSpot p) end flat next = tt
  entered_alike n (value.IsProc x) end flat next = tt
  entered_alike n (value.IsLabel l) end flat next = tt
  entered_alike n value.Nothing end flat next = tt

  -- the condition of a DO WHILE: into its range, or behind it
  abbrev TestStands : Option ℕ → ℕ → Type 0
  TestStands label n = (last : ℕ) → terminal_of u.facts.program i label ≡ Some last → IsLoop u i last × (ends_of u i + n ≡ loop_exit u.facts.program (record { first = i; last = last }))

  tested_by : (o : Type 0) (label : Option ℕ) (ts : Terms) (n : ℕ) (b : Bool) (x : Option ℕ) → terminal_of u.facts.program i label ≡ x → suc q ≡ ends_of u i → line.form ≡ On (ToTestLoop label) ts → TestStands label n →
      Alike u μ o (loop_tested u.facts (record { frame = f; at = i; now = now; loops = rounds }) w x b) (Goes (at_step f h (if b then suc q else suc q + n) m) w)
  unfolding loop_tested
  tested_by o label ts n b None e end is stands = tt
  tested_by o label ts n true (Some last) e end is stands =
      let loop' = stands last e in
      let round : Round = record { first = i; last = last; kind = While } in
      arrives u laid f h μ w m same called o (round ∷ rounds) (u.begins (suc i)) (suc i) (suc q)
      (subst (λ z. AreRounds u f m z (round ∷ rounds)) (sym loop'.0.open')
      (record { first = refl; last = refl; runs = record { line = line; label = label; operands = ts; there = place; is = is; ends = e } }, stand))
      (laid.before (suc i))
      (subst (λ z. Arrives u m z (suc q) (u.begins (suc i))) (end ∙ loop'.0.end) (plainly (omega arith) (subst (λ z. Leads u (suc q) z) (end ∙ loop'.0.end) there)))
  tested_by o label ts n false (Some last) e end is stands =
      let loop' = stands last e in
      passes_behind u laid f h μ w m same called o (open_at u.facts.program i) rounds (u.begins i) last (loop_exit u.facts.program (record { first = i; last = last })) (suc q + n) loop'.0.exit (laid.chain i) stand (laid.before i)
      (plainly (omega (arith, low)) (subst (λ z. Leads u (suc q + n) z) (ap (λ z. z + n) end ∙ loop'.1) there))

  pub test_alike : (o : Type 0) (label : Option ℕ) (ts : Terms) (n : ℕ) (d : Datum) → suc q ≡ ends_of u i → line.form ≡ On (ToTestLoop label) ts → TestStands label n →
      Alike u μ o (deed u.facts (record { frame = f; at = i; now = now; loops = rounds }) w (ToTestLoop label) (d ∷ [])) (testing (suc q) (suc q + n) (at_step f h q m) w (Gives d))
  unfolding deed testing to
  test_alike o label ts n (IsLog true) end is stands = tested_by o label ts n true (terminal_of u.facts.program i label) refl end is stands
  test_alike o label ts n (IsLog false) end is stands = tested_by o label ts n false (terminal_of u.facts.program i label) refl end is stands
  test_alike o label ts n (value.IsInt z) end is stands = tt
  test_alike o label ts n (value.IsText cs) end is stands = tt
  test_alike o label ts n (value.IsSpot p) end is stands = tt
  test_alike o label ts n (value.IsProc x) end is stands = tt
  test_alike o label ts n (value.IsLabel l) end is stands = tt
  test_alike o label ts n value.Nothing end is stands = tt

  given_alike : (x : Checked Datum) → (μ.wanted ≡ AsSubroutine → ⊥) → ((d : Datum) → x ≡ Gives d → IsNoLabel d) → Alike u μ (IsFollowed u q) (result_given f w x) (answering (result_given f w x))
  unfolding result_given answering cut_to
  given_alike (Gives d) function none = record { answer = d; is = refl; transfer = same; given = gives_function μ.wanted μ.labels d function (none d refl) }
  given_alike (Fails act) function none = tt

  result_alike : (x : Option Spot) → (μ.wanted ≡ AsSubroutine → ⊥) → Alike u μ (IsFollowed u q) (result_from f w x) (answering (result_from f w x))
  unfolding result_from answering
  result_alike None function = tt
  result_alike (Some p) function = given_alike (fetch w.store p) function (λ d e l is. fetch_none w.store p l (e ∙ ap Gives is))

  by_number : (d : Datum) (z : ℤ) → μ.wanted ≡ AsSubroutine → d ≡ alternate_of μ.labels z → Alike u μ (IsFollowed u q) (Answers w d) (Answers w (IsInt z))
  by_number d z wants is = record { answer = IsInt z; is = refl; transfer = same; given = subst (λ want. IsGiven want μ.labels d (IsInt z)) (sym wants) (z, refl, is) }

  answer_alike : (kind : UnitKind) (d : Datum) (z : ℤ) → KnowsCall kind f μ.wanted μ.labels → d ≡ alternate_of f.alternates z →
      Alike u μ (IsFollowed u q) (answer kind (record { frame = f; at = i; now = now; loops = rounds }) w d) (answering (target.answer kind f w z))
  unfolding answer target.answer answering resting alternate_of
  answer_alike MainProgram d z knows is = by_number Nothing (pos 0) knows refl
  answer_alike SubroutineUnit d z knows is = by_number d z knows.0 (is ∙ ap (λ labels. alternate_of labels z) knows.1)
  answer_alike FunctionUnit d z knows is = result_alike f.result knows
  answer_alike BlockDataUnit d z knows is = tt

  -- none is taken
  ended_alike : Alike u μ (IsFollowed u q) (answer u.facts.program.kind (record { frame = f; at = i; now = now; loops = rounds }) w Nothing) (answering (target.answer u.facts.program.kind f w (pos 0)))
  unfolding alternate_of
  ended_alike = answer_alike u.facts.program.kind Nothing (pos 0) called.knows refl

  answered_alike : (d : Datum) → Alike u μ (IsFollowed u q) (deed u.facts (record { frame = f; at = i; now = now; loops = rounds }) w ToReturn (d ∷ [])) (answering_by u (at_step f h q m) w (Gives d))
  unfolding deed answering_by
  answered_alike (IsInt z) = answer_alike u.facts.program.kind (alternate_of f.alternates z) z called.knows refl
  answered_alike (IsSpot p) = tt
  answered_alike (value.IsLog b) = tt
  answered_alike (value.IsText cs) = tt
  answered_alike (value.IsProc x) = tt
  answered_alike (value.IsLabel l) = tt
  answered_alike value.Nothing = tt

  step_at : (st : Step) → slice_get u.steps q ≡ Some st → step u (at_step f h q m) w ≡ done u (at_step f h q m) w (Some st)
  unfolding step
  step_at st e = ap (done u (at_step f h q m) w) e

  -- what a statement comes to, by the step that stands here
  here : (head : Head) (ds ds' : List Datum) (st : Step) (e : Doing) → slice_get u.steps q ≡ Some st → IsNoBranch st → ds ≡ ds' → done u (at_step f h q m) w (Some st) ≡ e →
      Alike u μ (IsFollowed u q) (deed u.facts (record { frame = f; at = i; now = now; loops = rounds }) w head ds') e → Led u f h w μ q m (deed u.facts (record { frame = f; at = i; now = now; loops = rounds }) w head ds)
  here head ds ds' st e there' no_branch are is alike = record {
    upto = q;
    kept = m;
    way = stays;
    ordinary = ordinary_by u q st there' no_branch;
    alike =
        subst (λ z. Alike u μ (IsFollowed u q) (deed u.facts (record { frame = f; at = i; now = now; loops = rounds }) w head z) (step u (at_step f h q m) w)) (sym are)
        (subst (λ x. Alike u μ (IsFollowed u q) (deed u.facts (record { frame = f; at = i; now = now; loops = rounds }) w head ds') x) (sym (step_at st there' ∙ is)) alike);
  }

  -- ## An arithmetic IF

  unless_to : (p : Pure) (n r : ℕ) (b : Bool) → slice_get u.steps r ≡ Some (Unless p n) → meant u.facts f m w.store p ≡ Gives (IsLog b) →
      step u (at_step f h r m) w ≡ Goes (at_step f h (if b then suc r else suc r + n) m) w
  unfolding step done testing to
  unless_to p n r true e is = ap (done u (at_step f h r m) w) e ∙ ap (testing (suc r) (suc r + n) (at_step f h r m) w) is
  unless_to p n r false e is = ap (done u (at_step f h r m) w) e ∙ ap (testing (suc r) (suc r + n) (at_step f h r m) w) is

  jump_alike : (r label : ℕ) → Reaches u.facts.program i label → slice_get u.steps r ≡ Some (Jump label) → Alike u μ (IsFollowed u r) (go u.facts (record { frame = f; at = i; now = now; loops = rounds }) w label) (step u (at_step f h r m) w)
  unfolding step done go
  jump_alike r label reaches e =
      subst (λ x. Alike u μ (IsFollowed u r) (proceeding (gone_to u.facts.program f rounds label) w) x) (sym (ap (done u (at_step f h r m) w) e)) (goes_to_label u laid f h μ w m same called (IsFollowed u r) rounds i label r stand reaches)

  below_meant : (p : Pure) (z : ℤ) → meant u.facts f m w.store p ≡ Gives (value.IsInt z) →
      meant u.facts f m w.store (Operated IsLess p (Constant (value.IsInt (pos 0)))) ≡ Gives (IsLog (int_lt z (pos 0)))
  unfolding meant given_that where_wanted left_of operated on_integers
  below_meant p z e = ap (λ x. given_that x (λ a. where_wanted (left_of IsLess a) (given_that (Gives (value.IsInt (pos 0))) (operated IsLess a)))) e

  at_meant : (p : Pure) (z : ℤ) → meant u.facts f m w.store p ≡ Gives (value.IsInt z) →
      meant u.facts f m w.store (Operated IsEqual p (Constant (value.IsInt (pos 0)))) ≡ Gives (IsLog (int_eq z (pos 0)))
  unfolding meant given_that where_wanted left_of operated on_integers
  at_meant p z e = ap (λ x. given_that x (λ a. where_wanted (left_of IsEqual a) (given_that (Gives (value.IsInt (pos 0))) (operated IsEqual a)))) e

  sign_led : (below at above r : ℕ) (p : Pure) (z : ℤ) → Reaches u.facts.program i below × Reaches u.facts.program i at × Reaches u.facts.program i above → Spans u q (by_sign_steps below at above p) r → meant u.facts f m w.store p ≡ Gives (value.IsInt z) → (x y : Bool) → int_lt z (pos 0) ≡ x → int_eq z (pos 0) ≡ y →
      Led u f h w μ q m (go u.facts (record { frame = f; at = i; now = now; loops = rounds }) w (if x then below else if y then at else above))
  sign_led below at above r p z reach spans is true y e e' =
      let one = spans_first u spans in
      let two = spans_first u one.1 in
      record { upto = suc q; kept = m; way = goes (ordinary_by u q _ one.0 tt) (unless_to _ 1 q true one.0 (below_meant p z is ∙ ap (λ b. Gives (IsLog b)) e)) (omega arith) stays; ordinary = ordinary_by u (suc q) (Jump below) two.0 tt; alike = jump_alike (suc q) below reach.0 two.0 }
  sign_led below at above r p z reach spans is false true e e' =
      let one = spans_first u spans in
      let two = spans_first u one.1 in
      let three = spans_first u two.1 in
      let four = spans_first u three.1 in
      let past : suc q + 1 ≡ suc (suc q) = omega arith in
      let first = subst (λ z. step u (at_step f h q m) w ≡ Goes (at_step f h z m) w) past (unless_to _ 1 q false one.0 (below_meant p z is ∙ ap (λ b. Gives (IsLog b)) e)) in
      record {
        upto = suc (suc (suc q));
        kept = m;
        way = goes (ordinary_by u q _ one.0 tt) first (omega arith) (goes (ordinary_by u (suc (suc q)) _ three.0 tt) (unless_to _ 1 (suc (suc q)) true three.0 (at_meant p z is ∙ ap (λ b. Gives (IsLog b)) e')) (omega arith) stays);
        ordinary = ordinary_by u (suc (suc (suc q))) (Jump at) four.0 tt;
        alike = jump_alike (suc (suc (suc q))) at reach.1 four.0;
      }
  sign_led below at above r p z reach spans is false false e e' =
      let one = spans_first u spans in
      let two = spans_first u one.1 in
      let three = spans_first u two.1 in
      let four = spans_first u three.1 in
      let five = spans_first u four.1 in
      let past : suc q + 1 ≡ suc (suc q) = omega arith in
      let past' : suc (suc (suc q)) + 1 ≡ suc (suc (suc (suc q))) = omega arith in
      let first = subst (λ z. step u (at_step f h q m) w ≡ Goes (at_step f h z m) w) past (unless_to _ 1 q false one.0 (below_meant p z is ∙ ap (λ b. Gives (IsLog b)) e)) in
      let second = subst (λ z. step u (at_step f h (suc (suc q)) m) w ≡ Goes (at_step f h z m) w) past' (unless_to _ 1 (suc (suc q)) false three.0 (at_meant p z is ∙ ap (λ b. Gives (IsLog b)) e')) in
      record {
        upto = suc (suc (suc (suc q)));
        kept = m;
        way = goes (ordinary_by u q _ one.0 tt) first (omega arith) (goes (ordinary_by u (suc (suc q)) _ three.0 tt) second (omega arith) stays);
        ordinary = ordinary_by u (suc (suc (suc (suc q)))) (Jump above) five.0 tt;
        alike = jump_alike (suc (suc (suc (suc q)))) above reach.2 five.0;
      }

  signed_led : (below at above r : ℕ) (p : Pure) (d : Datum) → Reaches u.facts.program i below × Reaches u.facts.program i at × Reaches u.facts.program i above → Spans u q (by_sign_steps below at above p) r → meant u.facts f m w.store p ≡ Gives d →
      Led u f h w μ q m (deed u.facts (record { frame = f; at = i; now = now; loops = rounds }) w (ToGoBySign below at above) (d ∷ []))
  unfolding deed by_sign
  signed_led below at above r p (value.IsInt z) reach spans is = sign_led below at above r p z reach spans is (int_lt z (pos 0)) (int_eq z (pos 0)) refl refl
  signed_led below at above r p (IsSpot s) reach spans is = let one = spans_first u spans in record { upto = q; kept = m; way = stays; ordinary = ordinary_by u q _ one.0 tt; alike = tt }
  signed_led below at above r p (value.IsLog b) reach spans is = let one = spans_first u spans in record { upto = q; kept = m; way = stays; ordinary = ordinary_by u q _ one.0 tt; alike = tt }
  signed_led below at above r p (value.IsText cs) reach spans is = let one = spans_first u spans in record { upto = q; kept = m; way = stays; ordinary = ordinary_by u q _ one.0 tt; alike = tt }
  signed_led below at above r p (value.IsProc x) reach spans is = let one = spans_first u spans in record { upto = q; kept = m; way = stays; ordinary = ordinary_by u q _ one.0 tt; alike = tt }
  signed_led below at above r p (value.IsLabel l) reach spans is = let one = spans_first u spans in record { upto = q; kept = m; way = stays; ordinary = ordinary_by u q _ one.0 tt; alike = tt }
  signed_led below at above r p value.Nothing reach spans is = let one = spans_first u spans in record { upto = q; kept = m; way = stays; ordinary = ordinary_by u q _ one.0 tt; alike = tt }

  -- ## A computed GO TO

  -- to one of the jumps behind, or past them all
  select_to : (p : Pure) (count : ℕ) (z : ℤ) → slice_get u.steps q ≡ Some (Select p count) → meant u.facts f m w.store p ≡ Gives (value.IsInt z) →
      step u (at_step f h q m) w ≡ Goes (at_step f h (suc q + passed_by count z) m) w
  unfolding step done selecting target.past to
  select_to p count z e is = ap (done u (at_step f h q m) w) e ∙ ap (selecting count (at_step f h q m) w) is

  pick_led : (labels : List ℕ) (p : Pure) (z : ℤ) (x : Option ℕ) → nth_label labels z ≡ x → loop_of line.form ≡ None → ((label : ℕ) → contains labels label ≡ true → Reaches u.facts.program i label) →
      Spans u q (Select p (length labels) ∷ map Jump labels) (ends_of u i) → meant u.facts f m w.store p ≡ Gives (value.IsInt z) →
      Led u f h w μ q m (source.picked u.facts (record { frame = f; at = i; now = now; loops = rounds }) w x)
  unfolding source.picked onward
  pick_led labels p z None e quiet reach spans is =
      let one = spans_first u spans in
      let past : suc q + passed_by (length labels) z ≡ ends_of u i = ap (λ n. suc q + n) (passes_all labels z e ∙ sym (length-map labels Jump)) ∙ sym (spans_length u one.1) in
      record {
        upto = q;
        kept = m;
        way = stays;
        ordinary = ordinary_by u q _ one.0 tt;
        alike =
            subst (λ x. Alike u μ (IsFollowed u q) (proceeding (passed u.facts.program f rounds i) w) x) (sym (select_to p (length labels) z one.0 is))
            (done_with w same (suc q + passed_by (length labels) z) (omega arith) past quiet);
      }
  pick_led labels p z (Some label) e quiet reach spans is =
      let one = spans_first u spans in
      let r = suc q + passed_by (length labels) z in
      let there' = step_stands u Jump labels (passed_by (length labels) z) label one.1 (passes_to labels z label e) in
      record {
        upto = r;
        kept = m;
        way = goes (ordinary_by u q _ one.0 tt) (select_to p (length labels) z one.0 is) (omega arith) stays;
        ordinary = ordinary_by u r (Jump label) there' tt;
        alike = jump_alike r label (reach label (nth_contained labels z label e)) there';
      }

  picked_led : (labels : List ℕ) (p : Pure) (d : Datum) → loop_of line.form ≡ None → ((label : ℕ) → contains labels label ≡ true → Reaches u.facts.program i label) →
      Spans u q (Select p (length labels) ∷ map Jump labels) (ends_of u i) → meant u.facts f m w.store p ≡ Gives d →
      Led u f h w μ q m (deed u.facts (record { frame = f; at = i; now = now; loops = rounds }) w (ToPick labels) (d ∷ []))
  unfolding deed
  picked_led labels p (value.IsInt z) quiet reach spans is = pick_led labels p z (nth_label labels z) refl quiet reach spans is
  picked_led labels p (IsSpot s) quiet reach spans is = let one = spans_first u spans in record { upto = q; kept = m; way = stays; ordinary = ordinary_by u q _ one.0 tt; alike = tt }
  picked_led labels p (value.IsLog b) quiet reach spans is = let one = spans_first u spans in record { upto = q; kept = m; way = stays; ordinary = ordinary_by u q _ one.0 tt; alike = tt }
  picked_led labels p (value.IsText cs) quiet reach spans is = let one = spans_first u spans in record { upto = q; kept = m; way = stays; ordinary = ordinary_by u q _ one.0 tt; alike = tt }
  picked_led labels p (value.IsProc x) quiet reach spans is = let one = spans_first u spans in record { upto = q; kept = m; way = stays; ordinary = ordinary_by u q _ one.0 tt; alike = tt }
  picked_led labels p (value.IsLabel l) quiet reach spans is = let one = spans_first u spans in record { upto = q; kept = m; way = stays; ordinary = ordinary_by u q _ one.0 tt; alike = tt }
  picked_led labels p value.Nothing quiet reach spans is = let one = spans_first u spans in record { upto = q; kept = m; way = stays; ordinary = ordinary_by u q _ one.0 tt; alike = tt }

  -- ## An assigned GO TO

  -- to the jump behind that goes to the label which is held
  held_to : (p : Pure) (labels : List ℕ) (s : Spot) (owner : Bytes) (l : ℕ) → slice_get u.steps q ≡ Some (JumpBy p labels) → meant u.facts f m w.store p ≡ Gives (IsSpot s) → label_at w.store s ≡ Gives (Label owner l) →
      bytes_eq owner (name_of u.facts.program) ≡ true → contains labels l ≡ true → step u (at_step f h q m) w ≡ Goes (at_step f h (suc q + passed_before labels l) m) w
  unfolding step done jumping label_held target.past to given_that
  held_to p labels s owner l e is held own among =
      ap (done u (at_step f h q m) w) e ∙ ap (λ x. jumping u labels (at_step f h q m) w (given_that x (label_held w.store))) is ∙ ap (jumping u labels (at_step f h q m) w) held
      ∙ ap (λ b. if b && contains labels l then target.past (passed_before labels l) (at_step f h q m) w else Breaks BadAssignedLabel) own
      ∙ ap (λ b. if b then target.past (passed_before labels l) (at_step f h q m) w else Breaks BadAssignedLabel) among

  among_led : (p : Pure) (choices : List ℕ) (s : Spot) (owner : Bytes) (l : ℕ) (own allowed inside : Bool) → bytes_eq owner (name_of u.facts.program) ≡ own → (allowed ≡ true → contains choices l ≡ true) →
      enters_block u.facts.program i (place_of_label u.facts.program l) ≡ inside → Spans u q (JumpBy p choices ∷ map Jump choices) (ends_of u i) → meant u.facts f m w.store p ≡ Gives (IsSpot s) →
      label_at w.store s ≡ Gives (Label owner l) → Led u f h w μ q m (if (own && allowed) && not inside then go u.facts (record { frame = f; at = i; now = now; loops = rounds }) w l else Breaks BadAssignedLabel)
  among_led p choices s owner l true true false mine among outside spans is held =
      let one = spans_first u spans in
      let r = suc q + passed_before choices l in
      let there' = step_stands u Jump choices (passed_before choices l) l one.1 (held_there choices l (among refl)) in
      record {
        upto = r;
        kept = m;
        way = goes (ordinary_by u q _ one.0 tt) (held_to p choices s owner l one.0 is held mine (among refl)) (omega arith) stays;
        ordinary = ordinary_by u r (Jump l) there' tt;
        alike = jump_alike r l (laid.assigned i l outside) there';
      }
  among_led p choices s owner l true true true mine among outside spans is held = let one = spans_first u spans in record { upto = q; kept = m; way = stays; ordinary = ordinary_by u q _ one.0 tt; alike = tt }
  among_led p choices s owner l true false inside mine among outside spans is held = let one = spans_first u spans in record { upto = q; kept = m; way = stays; ordinary = ordinary_by u q _ one.0 tt; alike = tt }
  among_led p choices s owner l false allowed inside mine among outside spans is held = let one = spans_first u spans in record { upto = q; kept = m; way = stays; ordinary = ordinary_by u q _ one.0 tt; alike = tt }

  -- for each label to which it may go there is a jump
  abbrev Covers : List ℕ → List ℕ → Type 0
  Covers labels choices = (l : ℕ) → contains (labels_to_go u.facts.program labels) l ≡ true → contains choices l ≡ true

  whole_led : (labels choices : List ℕ) → Covers labels choices → (p : Pure) (s : Spot) (x : Checked Whole) → label_at w.store s ≡ x → Spans u q (JumpBy p choices ∷ map Jump choices) (ends_of u i) → meant u.facts f m w.store p ≡ Gives (IsSpot s) →
      Led u f h w μ q m (gone_by u.facts (record { frame = f; at = i; now = now; loops = rounds }) w labels x)
  unfolding gone_by
  whole_led labels choices covers p s (Gives (Label owner l)) held spans is =
      among_led p choices s owner l (bytes_eq owner (name_of u.facts.program)) (contains (labels_to_go u.facts.program labels) l) (enters_block u.facts.program i (place_of_label u.facts.program l)) refl (covers l) refl spans is held
  whole_led labels choices covers p s (Gives (Number z)) held spans is = let one = spans_first u spans in record { upto = q; kept = m; way = stays; ordinary = ordinary_by u q _ one.0 tt; alike = tt }
  whole_led labels choices covers p s (Gives (Truth b)) held spans is = let one = spans_first u spans in record { upto = q; kept = m; way = stays; ordinary = ordinary_by u q _ one.0 tt; alike = tt }
  whole_led labels choices covers p s (Fails act) held spans is = let one = spans_first u spans in record { upto = q; kept = m; way = stays; ordinary = ordinary_by u q _ one.0 tt; alike = tt }

  assigned_led : (labels choices : List ℕ) → Covers labels choices → (p : Pure) (d : Datum) → Spans u q (JumpBy p choices ∷ map Jump choices) (ends_of u i) → meant u.facts f m w.store p ≡ Gives d →
      Led u f h w μ q m (deed u.facts (record { frame = f; at = i; now = now; loops = rounds }) w (ToGoAssigned labels) (d ∷ []))
  unfolding deed
  assigned_led labels choices covers p (IsSpot s) spans is = whole_led labels choices covers p s (label_at w.store s) refl spans is
  assigned_led labels choices covers p (value.IsInt z) spans is = let one = spans_first u spans in record { upto = q; kept = m; way = stays; ordinary = ordinary_by u q _ one.0 tt; alike = tt }
  assigned_led labels choices covers p (value.IsLog b) spans is = let one = spans_first u spans in record { upto = q; kept = m; way = stays; ordinary = ordinary_by u q _ one.0 tt; alike = tt }
  assigned_led labels choices covers p (value.IsText cs) spans is = let one = spans_first u spans in record { upto = q; kept = m; way = stays; ordinary = ordinary_by u q _ one.0 tt; alike = tt }
  assigned_led labels choices covers p (value.IsProc x) spans is = let one = spans_first u spans in record { upto = q; kept = m; way = stays; ordinary = ordinary_by u q _ one.0 tt; alike = tt }
  assigned_led labels choices covers p (value.IsLabel l) spans is = let one = spans_first u spans in record { upto = q; kept = m; way = stays; ordinary = ordinary_by u q _ one.0 tt; alike = tt }
  assigned_led labels choices covers p value.Nothing spans is = let one = spans_first u spans in record { upto = q; kept = m; way = stays; ordinary = ordinary_by u q _ one.0 tt; alike = tt }

  -- ## All forms

  -- ## CALL

  subroutine_led : (k : ℕ) (name : Bytes) (labels : List ℕ) (ps : Pures) (ds : List Datum) (st : Step) → slice_get u.steps q ≡ Some st → IsCall st → IsNoBranch st →
      done u (at_step f h q m) w (Some st) ≡ calling u (at_step f h q m) w (record { name = name; want = AsSubroutine }) (Gives ds) → free_at u.facts.program i ≡ k → loop_of line.form ≡ None → Spans u q (call_steps k name labels ps) (ends_of u i) →
      labels_in ds ≡ labels → ((l : ℕ) → contains (labels_in ds) l ≡ true → Reaches u.facts.program i l) → Led u f h w μ q m (deed u.facts (record { frame = f; at = i; now = now; loops = rounds }) w (ToCall name) ds)
  unfolding deed
  subroutine_led k name labels ps ds st there' call' no_branch calls enough quiet spans are reach = record {
    upto = q;
    kept = m;
    way = stays;
    ordinary = ordinary_by u q st there' no_branch;
    alike =
        call_alike u f h μ w i q m rounds (IsFollowed u q) (laid.followed q st there' call') (record { name = name; want = AsSubroutine }) ds fortran.Returning now
        (λ s r t r' given.
        called_back u laid f (length w.store) μ called i q k m rounds line place quiet stand (omega (arith, enough)) low name ps (labels_in ds) (subst (λ z. Spans u q (call_steps k name z ps) (ends_of u i)) (sym are) spans) reach s r t r'
        (given.0, given.1 ∙ same, given.2)) (step u (at_step f h q m) w) (step_at st there' ∙ calls);
  }

  call_led : (k : ℕ) (name : Bytes) (labels : List ℕ) (ps : Pures) (ds : List Datum) → free_at u.facts.program i ≡ k → loop_of line.form ≡ None → Spans u q (call_steps k name labels ps) (ends_of u i) → all_meant u.facts f m w.store ps ≡ Gives ds →
      labels_in ds ≡ labels → ((l : ℕ) → contains (labels_in ds) l ≡ true → Reaches u.facts.program i l) → Led u f h w μ q m (deed u.facts (record { frame = f; at = i; now = now; loops = rounds }) w (ToCall name) ds)
  unfolding call_steps done
  call_led k name [] ps ds enough quiet spans is are reach =
      subroutine_led k name [] ps ds (CallSub k name ps) (spans_first u spans).0 tt tt (ap (calling u (at_step f h q m) w (record { name = name; want = AsSubroutine })) is) enough quiet spans are reach
  call_led k name (l ∷ ls) ps ds enough quiet spans is are reach =
      subroutine_led k name (l ∷ ls) ps ds (CallFor k (record { name = name; want = AsSubroutine }) ps) (spans_first u spans).0 tt tt (ap (calling u (at_step f h q m) w (record { name = name; want = AsSubroutine })) is) enough quiet spans are reach

  pub deed_alike : (k : ℕ) (x : Option ℕ) → ((j : ℕ) → x ≡ Some j → j ≡ i) → (head : Head) (ts left : Terms) (ps : Pures) (closing : List Step) (ds : List Datum) → ((label : Option ℕ) → head ≡ ToLoop label → ⊥) → free_at u.facts.program i ≡ k → IsPart line.form x head ts → HeadBranches u.facts.program i head left → IsClosing u k x head ts ps closing → Spans u q closing (ends_of u i) → all_meant u.facts f m w.store ps ≡ Gives ds →
      ((name : Bytes) → head ≡ ToCall name → hides_labels ts ≡ false → labels_in ds ≡ labels_written ts) → ((name : Bytes) → head ≡ ToCall name → (l : ℕ) → contains (labels_in ds) l ≡ true → Reaches u.facts.program i l) → Led u f h w μ q m (deed u.facts (record { frame = f; at = i; now = now; loops = rounds }) w head ds)
  unfolding deed done go given_that loop_of acting
  deed_alike k x whole _ ts left _ _ ds no_do enough part well (for_set {p = p} {place = place}) spans is none reach =
      let v = two_values u.facts f m w.store p place ds is in
      let one = spans_one u spans in
      here ToSet ds (v.first ∷ v.second ∷ []) (Put place p) (storing (at_step f h q m) w (put_at w.store v.second v.first)) one.0 tt v.are
      (ap (λ x. storing (at_step f h q m) w (given_that x (λ d. given_that (meant u.facts f m w.store place) (λ r. put_at w.store r d)))) v.first_is
      ∙ ap (λ x. storing (at_step f h q m) w (given_that x (λ r. put_at w.store r v.first))) v.second_is) (set_alike v.first v.second (part_quiet line.form x ToSet ts part refl) (sym one.1))
  deed_alike k x whole _ ts left _ _ ds no_do enough part well (for_set_label {label = label} {place = place}) spans is none reach =
      let v = one_value u.facts f m w.store place ds is in
      let one = spans_one u spans in
      here (ToSetLabel label) ds (v.first ∷ []) (PutLabel place label) (storing (at_step f h q m) w (put_label_at u w.store label v.first)) one.0 tt v.are
      (ap (λ x. storing (at_step f h q m) w (given_that x (put_label_at u w.store label))) v.first_is) (set_label_alike label v.first (part_quiet line.form x (ToSetLabel label) ts part refl) (sym one.1))
  deed_alike k x whole _ ts left _ _ ds no_do enough part well (for_go {label = label}) spans is none reach =
      here (ToGo label) ds [] (Jump label) (jump u label (at_step f h q m) w) (spans_one u spans).0 tt (no_value u.facts f m w.store ds is) refl (to_label label well)
  deed_alike k x whole _ ts left _ _ ds no_do enough part well (for_pick {labels = labels} {p = p}) spans is none reach =
      let v = one_value u.facts f m w.store p ds is in
      subst (λ z. Led u f h w μ q m (deed u.facts (record { frame = f; at = i; now = now; loops = rounds }) w (ToPick labels) z)) (sym v.are)
      (picked_led labels p v.first (part_quiet line.form x (ToPick labels) ts part refl) well spans v.first_is)
  deed_alike k x whole _ ts left _ _ ds no_do enough part well (for_go_assigned {labels = labels} {choices = choices} {place = place} covers) spans is none reach =
      let v = one_value u.facts f m w.store place ds is in
      subst (λ z. Led u f h w μ q m (deed u.facts (record { frame = f; at = i; now = now; loops = rounds }) w (ToGoAssigned labels) z)) (sym v.are) (assigned_led labels choices covers place v.first spans v.first_is)
  deed_alike k x whole _ ts left _ _ ds no_do enough part well (for_go_by_sign {below = below} {at = at} {above = above} {p = p}) spans is none reach =
      let v = one_value u.facts f m w.store p ds is in
      subst (λ z. Led u f h w μ q m (deed u.facts (record { frame = f; at = i; now = now; loops = rounds }) w (ToGoBySign below at above) z)) (sym v.are) (signed_led below at above (ends_of u i) p v.first well spans v.first_is)
  deed_alike k x whole _ ts left _ _ ds no_do enough part well (for_guard {form = form} {p = p} {under = under} code) spans is none reach =
      let v = one_value u.facts f m w.store p ds is in
      let first = spans_first u spans in
      here (ToGuard form) ds (v.first ∷ []) (Unless p (length under)) (testing (suc q) (suc q + length under) (at_step f h q m) w (Gives v.first)) first.0 tt v.are
      (ap (testing (suc q) (suc q + length under) (at_step f h q m) w) v.first_is) (guard_alike k form under v.first enough (part_quiet line.form x (ToGuard form) ts part refl) well code first.1)
  deed_alike k x whole _ ts left _ _ ds no_do enough part well (for_arm {i = j} {n = n} {p = p} flat next) spans is none reach =
      let v = one_value u.facts f m w.store p ds is in
      let one = spans_one u spans in
      let same_place : j ≡ i = whole j refl in
      here ToEnterArm ds (v.first ∷ []) (Unless p n) (testing (suc q) (suc q + n) (at_step f h q m) w (Gives v.first)) one.0 tt v.are
      (ap (testing (suc q) (suc q + n) (at_step f h q m) w) v.first_is)
      (entered_alike n v.first (sym one.1) (subst (IsFlat u) same_place flat) (subst (λ z. (l : ℕ) → arm_after u.facts.program z ≡ Some l → IsNextArm u z n l) same_place next))
  deed_alike k x whole _ ts left _ _ ds no_do enough part well (for_test {i = j} {n = n} {label = label} {p = p} stands) spans is none reach =
      let v = one_value u.facts f m w.store p ds is in
      let one = spans_one u spans in
      let same_place : j ≡ i = whole j refl in
      here (ToTestLoop label) ds (v.first ∷ []) (Unless p n) (testing (suc q) (suc q + n) (at_step f h q m) w (Gives v.first)) one.0 tt v.are
      (ap (testing (suc q) (suc q + n) (at_step f h q m) w) v.first_is)
      (test_alike (IsFollowed u q) label ts n v.first (sym one.1) (whole_form line.form j (ToTestLoop label) ts part)
      (subst (λ z. (last : ℕ) → terminal_of u.facts.program z label ≡ Some last → IsLoop u z last × (ends_of u z + n ≡ loop_exit u.facts.program (record { first = z; last = last }))) same_place stands))
  deed_alike k x whole _ ts left _ _ ds no_do enough part well (for_loop {label = label} n stands) spans is none reach = absurd (no_do label refl)
  deed_alike k x whole _ ts left ps _ ds no_do enough part well (for_call {name = name} hides) spans is none reach =
      call_led k name (labels_written ts) ps ds enough (part_quiet line.form x (ToCall name) ts part refl) spans is (none name refl hides) (reach name refl)
  deed_alike k x whole _ ts left _ _ ds no_do enough part well for_return spans is none reach =
      here ToReturn ds [] Back (answering (target.answer u.facts.program.kind f w (pos 0))) (spans_one u spans).0 tt (no_value u.facts f m w.store ds is) refl ended_alike
  deed_alike k x whole _ ts left _ _ ds no_do enough part well (for_return_by {p = p}) spans is none reach =
      let v = one_value u.facts f m w.store p ds is in
      here ToReturn ds (v.first ∷ []) (BackBy p) (answering_by u (at_step f h q m) w (Gives v.first)) (spans_one u spans).0 tt v.are (ap (answering_by u (at_step f h q m) w) v.first_is) (answered_alike v.first)
  deed_alike k x whole _ ts left _ _ ds no_do enough part well (for_stop {text = text}) spans is none reach =
      here (ToStop text) ds [] (Halt text) (Ends (stop_ending text) (at_step f h q m) w) (spans_one u spans).0 tt (no_value u.facts f m w.store ds is) refl (record { view = at_step f h q m; is = refl; frame = refl })
  deed_alike k x whole _ ts left ps _ ds no_do enough part well (for_begin {way = way} {layout = layout} {controls = controls} {work = work} {items = items} code) spans is none reach =
      let first = spans_first u spans in
      let act = Starts way layout controls in
      here (ToBegin way layout controls work) ds ds (Acts act ps (length items)) (coursing u (length items) (at_step f h q m) (course_of u w act ds)) first.0 tt refl (ap (acting u (length items) (at_step f h q m) w act) is)
      (begin_alike u laid f h μ i q m now called rounds stand line place low (part_quiet line.form x (ToBegin way layout controls work) ts part refl) (IsFollowed u q) k enough w same way layout controls work items ds well code first.1)
  deed_alike k x whole _ ts left ps _ ds no_do enough part well (for_auxiliary {which = which} {controls = controls}) spans is none reach =
      let one = spans_one u spans in
      let act = Auxiliary which controls in
      here (ToAuxiliary which controls) ds ds (Acts act ps 0) (coursing u 0 (at_step f h q m) (course_of u w act ds)) one.0 tt refl (ap (acting u 0 (at_step f h q m) w act) is)
      (auxiliary_alike u laid f h μ i q m now called rounds stand line place low (part_quiet line.form x (ToAuxiliary which controls) ts part refl) (IsFollowed u q) w same which controls ds well (sym one.1))
  deed_alike k x whole _ ts left _ _ ds no_do enough part well (for_item code) spans is none reach = absurd well
  deed_alike k x whole _ ts left _ _ ds no_do enough part well for_finish spans is none reach = absurd well
  deed_alike k x whole _ ts left _ _ ds no_do enough part well for_end spans is none reach =
      here ToEnd ds [] Back (answering (target.answer u.facts.program.kind f w (pos 0))) (spans_one u spans).0 tt (no_value u.facts f m w.store ds is) refl ended_alike

-- the same, also in the midst of a list
module _ (u : Text) (laid : IsLaidOut u) (f : Frame) (h : ℕ) (μ : Found) (w : World) (i q : ℕ) (m : Temporaries) (now : fortran.Now) (called : IsCalled u.facts.program.kind f μ)
    (rounds : List Round) (stand : AreRounds u f m (open_at u.facts.program i) rounds) (line : Line) (place : slice_get u.facts.program.lines i ≡ Some line) (low : u.begins i ≤ q) where
  item_led : (act : Acting) (n : ℕ) (ps : Pures) (head : Head) (ds : List Datum) → slice_get u.steps q ≡ Some (Acts act ps n) → all_meant u.facts f m w.store ps ≡ Gives ds →
      Alike u μ (IsFollowed u q) (deed u.facts (record { frame = f; at = i; now = now; loops = rounds }) w head ds) (coursing u n (at_step f h q m) (course_of u w act ds)) →
      Led u f h w μ q m (deed u.facts (record { frame = f; at = i; now = now; loops = rounds }) w head ds)
  unfolding step done acting
  item_led act n ps head ds there' is alike = record {
    upto = q;
    kept = m;
    way = stays;
    ordinary = ordinary_by u q (Acts act ps n) there' tt;
    alike =
        subst (λ x. Alike u μ (IsFollowed u q) (deed u.facts (record { frame = f; at = i; now = now; loops = rounds }) w head ds) x)
        (sym (ap (done u (at_step f h q m) w) there' ∙ ap (acting u n (at_step f h q m) w act) is)) alike;
  }

  pub deed_met : (k : ℕ) (x : Option ℕ) → ((j : ℕ) → x ≡ Some j → j ≡ i) → (head : Head) → HasTransfer u.facts.program μ i head w.transfer → (ts left : Terms) (ps : Pures) (closing : List Step) (ds : List Datum) → ((label : Option ℕ) → head ≡ ToLoop label → ⊥) →
      free_at u.facts.program i ≡ k → IsPart line.form x head ts → BranchesNow u.facts.program i head left → IsClosing u k x head ts ps closing → Spans u q closing (ends_of u i) → all_meant u.facts f m w.store ps ≡ Gives ds →
      ((name : Bytes) → head ≡ ToCall name → hides_labels ts ≡ false → labels_in ds ≡ labels_written ts) → ((name : Bytes) → head ≡ ToCall name → (l : ℕ) → contains (labels_in ds) l ≡ true → Reaches u.facts.program i l) →
      Led u f h w μ q m (deed u.facts (record { frame = f; at = i; now = now; loops = rounds }) w head ds)
  unfolding loop_of
  deed_met k x whole _ has ts left ps _ ds no_do enough part well (for_item {left = others} {items = items} code) spans is none reach =
      let first = spans_first u spans in
      item_led Takes (length items) ps (ToTransfer others) ds first.0 is
      (item_alike u laid f h μ i q m now called rounds stand line place low (part_quiet line.form x (ToTransfer others) ts part refl) (IsFollowed u q) k enough w has others items ds code first.1)
  deed_met k x whole _ has ts left ps _ ds no_do enough part well for_finish spans is none reach =
      let one = spans_one u spans in
      item_led Finishes 0 NoPure ToFinish ds one.0 is (finish_alike u laid f h μ i q m now called rounds stand line place low (part_quiet line.form x ToFinish ts part refl) (IsFollowed u q) w has ds (sym one.1))
  deed_met k x whole _ has ts left _ _ ds no_do enough part well for_set spans is none reach = deed_alike u laid f h μ w i q m now has called rounds stand line place low k x whole _ ts left _ _ ds no_do enough part well for_set spans is none reach
  deed_met k x whole _ has ts left _ _ ds no_do enough part well for_set_label spans is none reach = deed_alike u laid f h μ w i q m now has called rounds stand line place low k x whole _ ts left _ _ ds no_do enough part well for_set_label spans is none reach
  deed_met k x whole _ has ts left _ _ ds no_do enough part well for_go spans is none reach = deed_alike u laid f h μ w i q m now has called rounds stand line place low k x whole _ ts left _ _ ds no_do enough part well for_go spans is none reach
  deed_met k x whole _ has ts left _ _ ds no_do enough part well for_pick spans is none reach = deed_alike u laid f h μ w i q m now has called rounds stand line place low k x whole _ ts left _ _ ds no_do enough part well for_pick spans is none reach
  deed_met k x whole _ has ts left _ _ ds no_do enough part well (for_go_assigned covers) spans is none reach = deed_alike u laid f h μ w i q m now has called rounds stand line place low k x whole _ ts left _ _ ds no_do enough part well (for_go_assigned covers) spans is none reach
  deed_met k x whole _ has ts left _ _ ds no_do enough part well for_go_by_sign spans is none reach = deed_alike u laid f h μ w i q m now has called rounds stand line place low k x whole _ ts left _ _ ds no_do enough part well for_go_by_sign spans is none reach
  deed_met k x whole _ has ts left _ _ ds no_do enough part well (for_guard code) spans is none reach = deed_alike u laid f h μ w i q m now has called rounds stand line place low k x whole _ ts left _ _ ds no_do enough part well (for_guard code) spans is none reach
  deed_met k x whole _ has ts left _ _ ds no_do enough part well (for_arm flat next) spans is none reach = deed_alike u laid f h μ w i q m now has called rounds stand line place low k x whole _ ts left _ _ ds no_do enough part well (for_arm flat next) spans is none reach
  deed_met k x whole _ has ts left _ _ ds no_do enough part well (for_test stands) spans is none reach = deed_alike u laid f h μ w i q m now has called rounds stand line place low k x whole _ ts left _ _ ds no_do enough part well (for_test stands) spans is none reach
  deed_met k x whole _ has ts left ps _ ds no_do enough part well (for_loop {label = label} n stands) spans is none reach = absurd (no_do label refl)
  deed_met k x whole _ has ts left _ _ ds no_do enough part well (for_call hides) spans is none reach = deed_alike u laid f h μ w i q m now has called rounds stand line place low k x whole _ ts left _ _ ds no_do enough part well (for_call hides) spans is none reach
  deed_met k x whole _ has ts left _ _ ds no_do enough part well for_return spans is none reach = deed_alike u laid f h μ w i q m now has called rounds stand line place low k x whole _ ts left _ _ ds no_do enough part well for_return spans is none reach
  deed_met k x whole _ has ts left _ _ ds no_do enough part well for_return_by spans is none reach = deed_alike u laid f h μ w i q m now has called rounds stand line place low k x whole _ ts left _ _ ds no_do enough part well for_return_by spans is none reach
  deed_met k x whole _ has ts left _ _ ds no_do enough part well for_stop spans is none reach = deed_alike u laid f h μ w i q m now has called rounds stand line place low k x whole _ ts left _ _ ds no_do enough part well for_stop spans is none reach
  deed_met k x whole _ has ts left _ _ ds no_do enough part well for_end spans is none reach = deed_alike u laid f h μ w i q m now has called rounds stand line place low k x whole _ ts left _ _ ds no_do enough part well for_end spans is none reach
  deed_met k x whole _ has ts left _ _ ds no_do enough part well (for_begin code) spans is none reach = deed_alike u laid f h μ w i q m now has called rounds stand line place low k x whole _ ts left _ _ ds no_do enough part well (for_begin code) spans is none reach
  deed_met k x whole _ has ts left _ _ ds no_do enough part well for_auxiliary spans is none reach = deed_alike u laid f h μ w i q m now has called rounds stand line place low k x whole _ ts left _ _ ds no_do enough part well for_auxiliary spans is none reach
