-- Behind the start of a transfer, an item and the end, and behind OPEN and its kin, the text goes on as FORTRAN does.
use Rattle.std.specs.Prelude.{◌≡◌, ℕ, suc, ◌+◌, ◌≤◌, List, [], ◌∷◌, length, Option, Some, None, slice_get}
use Rattle.std.proofs.Common.{refl, sym, ◌∙◌, subst, arith}
use Rattle.fortran_laws.specs.simulation.Machine.{Goes}
use Rattle.fortran_laws.specs.f_tree.Values.{Datum}
use Rattle.fortran_laws.specs.f_tree.Terms.{Terms, NoMore, More}
use Rattle.fortran_laws.specs.f_tree.Facts.{Direction, Layout, Controls, AuxiliaryKind, Item, Repeated, Turn, Work, Done, Before, ToBegin, ToTransfer, ToRepeat, ToTurn, ToFinish, ToAuxiliary, Head, On, Line, Frame}
use Rattle.fortran_laws.specs.f_tree.World as fortran
use Rattle.fortran_laws.specs.f_tree.World.{World, Transfer, Round, proceeding}
use Rattle.fortran_laws.specs.f_tree.Courses.{Course, Further, IsDone, Branches, StopsWith, NotSaid}
use Rattle.fortran_laws.specs.f_tree.Nests.{loop_of, open_at}
use Rattle.fortran_laws.specs.f_tree.Transfers.{next_of, begins, item_done, finished}
use Rattle.fortran_laws.specs.f_tree.UnitStatements.{auxiliary}
use Rattle.fortran_laws.specs.f_tree.Step.{onward, go, coursed, deed}
use Rattle.lowering.specs.l_core.Pures.{Temporaries}
use Rattle.lowering.specs.l_core.Steps.{Starts, Takes, Finishes, Auxiliary, Step, Text}
use Rattle.lowering.specs.l_core.Machine as target
use Rattle.lowering.specs.l_core.Machine.{to, past, course_of, coursing}
use Rattle.lowering.specs.Units.{free_at}
use Rattle.lowering_laws.specs.Walks.{Spans, at_step}
use Rattle.lowering_laws.specs.Layer.{Found, IsCalled, Leads, there, plainly, ends_of, AreRounds, ControlsReach, BranchesNow, IsOwn, HasTransfer, IsCode, Stands, IsLaidOut, is_under}
use Rattle.lowering_laws.proofs.CourseLemmas.{CourseIs, finished_fine, auxiliary_fine, done_fine, begins_fine}
use Rattle.lowering_laws.proofs.WalkLemmas.{spans_length}
use Rattle.lowering_laws.proofs.PlaceLemmas.{code_stands, Alike, BothGo, at_form, comes_in, passes_on, goes_to_label}

module _ (u : Text) (laid : IsLaidOut u) (f : Frame) (h : ℕ) (μ : Found) (i q : ℕ) (m : Temporaries) (now : fortran.Now) (called : IsCalled u.facts.program.kind f μ) (rounds : List Round) (stand : AreRounds u f m (open_at u.facts.program i) rounds)
    (line : Line) (place : slice_get u.facts.program.lines i ≡ Some line) (low : u.begins i ≤ q) (quiet : loop_of line.form ≡ None) (o : Type 0) where
  -- at what is left of a list
  listed_at : (k : ℕ) → free_at u.facts.program i ≡ k → (w : World) (head : Head) (ts : Terms) → HasTransfer u.facts.program μ i head w.transfer → BranchesNow u.facts.program i head ts → Stands u k None (On head ts) (suc q) (ends_of u i) →
      BothGo u μ (record { frame = f; at = i; now = fortran.Doing (On head ts); loops = rounds }) w (Goes (at_step f h (suc q) m) w)
  listed_at k enough w head ts has well stands =
      comes_in u f h μ w m called rounds i (suc q) head ts has stand
      (at_form u laid.returns f m k None i (suc q) (suc q) enough (λ j e. absurd (cc)) line place (omega (arith, low)) (On head ts) (λ head' ts' e. is_under quiet) well stands (plainly (omega arith) there) head ts refl)

  left_alike : (k : ℕ) → free_at u.facts.program i ≡ k → μ.transfer ≡ None → (work : Work) (items : List Step) → IsCode u k None (next_of work) items → Spans u (suc q) items (ends_of u i) → (w : World) → IsOwn u.facts.program i w.transfer →
      BothGo u μ (record { frame = f; at = i; now = fortran.Doing (next_of work); loops = rounds }) w (Goes (at_step f h (suc q) m) w)
  unfolding next_of
  left_alike k enough none Done items code spans w own = listed_at k enough w ToFinish NoMore (none, own) tt (code_stands u k None (On ToFinish NoMore) items (suc q) (ends_of u i) code spans)
  left_alike k enough none (Before (Item t) more) items code spans w own =
      listed_at k enough w (ToTransfer more) (More t NoMore) (none, own) tt (code_stands u k None (On (ToTransfer more) (More t NoMore)) items (suc q) (ends_of u i) code spans)
  left_alike k enough none (Before (Repeated inner control) more) items code spans w own =
      listed_at k enough w (ToRepeat inner more) control (none, own) tt (code_stands u k None (On (ToRepeat inner more) control) items (suc q) (ends_of u i) code spans)
  left_alike k enough none (Before (Turn inner p left by given) more) items code spans w own =
      listed_at k enough w (ToTurn inner p left by given more) NoMore (none, own) tt (code_stands u k None (On (ToTurn inner p left by given more) NoMore) items (suc q) (ends_of u i) code spans)

  -- by what an act comes to
  course_alike : μ.transfer ≡ None → (n : ℕ) → suc q + n ≡ ends_of u i → (w : World) (work : Work) (good : World → Type 0) →
      ((w' : World) → good w' → BothGo u μ (record { frame = f; at = i; now = fortran.Doing (next_of work); loops = rounds }) w' (Goes (at_step f h (suc q) m) w')) → (course : Course) → CourseIs u.facts.program i good course →
      Alike u μ o (coursed u.facts (record { frame = f; at = i; now = now; loops = rounds }) work course) (coursing u n (at_step f h q m) course)
  unfolding coursed coursing onward target.onward go past to
  course_alike none n end w work good next (Further w') is = next w' is
  course_alike none n end w work good next (IsDone w') is =
      passes_on u laid f h μ w' m (is ∙ sym none) called o rounds i (suc q + n) line place quiet stand (plainly (omega (arith, low)) (subst (λ z. Leads u (suc q + n) z) end there))
  course_alike none n end w work good next (Branches label w') is = goes_to_label u laid f h μ w' m (is.0 ∙ sym none) called o rounds i label q stand is.1
  course_alike none n end w work good next (StopsWith number w') is = record { view = at_step f h q m; is = refl; frame = refl }
  course_alike none n end w work good next (NotSaid act) is = tt

  Own : World → Type 0
  Own w = IsOwn u.facts.program i w.transfer

  -- ## The start

  begun_by : (k : ℕ) → free_at u.facts.program i ≡ k → (w : World) (way : Direction) (layout : Layout) (controls : Controls) (work : Work) (items : List Step) (ds : List Datum) → ControlsReach u.facts.program i controls → IsCode u k None (next_of work) items →
      Spans u (suc q) items (ends_of u i) → (x : Option Transfer) → x ≡ μ.transfer →
      Alike u μ o (coursed u.facts (record { frame = f; at = i; now = now; loops = rounds }) work (begins u.facts.program.formats w way layout controls ds x)) (coursing u (length items) (at_step f h q m) (begins u.facts.program.formats w way layout controls ds x))
  unfolding begins coursed Own
  begun_by k enough w way layout controls work items ds reach code spans None e =
      course_alike (sym e) (length items) (sym (spans_length u spans)) w work Own (λ w' own. left_alike k enough (sym e) work items code spans w' own) (begins u.facts.program.formats w way layout controls ds None)
      (begins_fine u.facts.program i Own (λ w' t r. r) u.facts.program.formats w way layout controls ds reach)
  begun_by k enough w way layout controls work items ds reach code spans (Some t) e = tt

  pub begin_alike : (k : ℕ) → free_at u.facts.program i ≡ k → (w : World) → w.transfer ≡ μ.transfer → (way : Direction) (layout : Layout) (controls : Controls) (work : Work) (items : List Step) (ds : List Datum) → ControlsReach u.facts.program i controls →
      IsCode u k None (next_of work) items → Spans u (suc q) items (ends_of u i) →
      Alike u μ o (deed u.facts (record { frame = f; at = i; now = now; loops = rounds }) w (ToBegin way layout controls work) ds) (coursing u (length items) (at_step f h q m) (course_of u w (Starts way layout controls) ds))
  unfolding deed course_of
  begin_alike k enough w same way layout controls work items ds reach code spans = begun_by k enough w way layout controls work items ds reach code spans w.transfer same

  -- ## An item, and the end

  pub item_alike : (k : ℕ) → free_at u.facts.program i ≡ k → (w : World) → (μ.transfer ≡ None) × IsOwn u.facts.program i w.transfer → (others : Work) (items : List Step) (ds : List Datum) → IsCode u k None (next_of others) items → Spans u (suc q) items (ends_of u i) →
      Alike u μ o (deed u.facts (record { frame = f; at = i; now = now; loops = rounds }) w (ToTransfer others) ds) (coursing u (length items) (at_step f h q m) (course_of u w Takes ds))
  unfolding deed course_of Own
  item_alike k enough w has others items [] code spans = tt
  item_alike k enough w has others items (d ∷ []) code spans =
      course_alike has.0 (length items) (sym (spans_length u spans)) w others Own (λ w' own. left_alike k enough has.0 others items code spans w' own) (item_done w d w.transfer)
      (done_fine u.facts.program i Own (λ w' t r. r) w d w.transfer has.1)
  item_alike k enough w has others items (d ∷ e ∷ es) code spans = tt

  pub finish_alike : (w : World) → (μ.transfer ≡ None) × IsOwn u.facts.program i w.transfer → (ds : List Datum) → suc q ≡ ends_of u i →
      Alike u μ o (deed u.facts (record { frame = f; at = i; now = now; loops = rounds }) w ToFinish ds) (coursing u 0 (at_step f h q m) (course_of u w Finishes ds))
  unfolding deed course_of
  finish_alike w has [] end =
      course_alike has.0 0 (omega (arith, end)) w Done (λ w'. ⊥) (λ w' none. absurd none) (finished w w.transfer) (finished_fine u.facts.program i (λ w'. ⊥) w w.transfer has.1)
  finish_alike w has (d ∷ ds) end = tt

  -- ## OPEN and its kin

  auxiliary_by : (w : World) (which : AuxiliaryKind) (controls : Controls) (ds : List Datum) → ControlsReach u.facts.program i controls → suc q ≡ ends_of u i → (x : Option Transfer) → x ≡ μ.transfer →
      Alike u μ o (coursed u.facts (record { frame = f; at = i; now = now; loops = rounds }) Done (auxiliary w which controls ds x)) (coursing u 0 (at_step f h q m) (auxiliary w which controls ds x))
  unfolding auxiliary coursed
  auxiliary_by w which controls ds reach end None e =
      course_alike (sym e) 0 (omega (arith, end)) w Done (λ w'. ⊥) (λ w' none. absurd none) (auxiliary w which controls ds None) (auxiliary_fine u.facts.program i (λ w'. ⊥) w which controls ds reach)
  auxiliary_by w which controls ds reach end (Some t) e = tt

  pub auxiliary_alike : (w : World) → w.transfer ≡ μ.transfer → (which : AuxiliaryKind) (controls : Controls) (ds : List Datum) → ControlsReach u.facts.program i controls → suc q ≡ ends_of u i →
      Alike u μ o (deed u.facts (record { frame = f; at = i; now = now; loops = rounds }) w (ToAuxiliary which controls) ds) (coursing u 0 (at_step f h q m) (course_of u w (Auxiliary which controls) ds))
  unfolding deed course_of
  auxiliary_alike w same which controls ds reach end = auxiliary_by w which controls ds reach end w.transfer same
