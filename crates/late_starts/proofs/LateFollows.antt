-- A target that is late follows its source as one that is not.
use Rattle.std.specs.Prelude.{ℕ, ◌+◌, ◌≤◌}
use Rattle.std.proofs.Common.{arith}
use Rattle.simulation.specs.Machine.{Event, Goes, Ends, Calls, Answers, Breaks, Entry, Enters, Refused, Lang}
use Rattle.simulation.specs.LocalSimulation.{Does, Kit, Couple, Resumed, Meets}
use Rattle.simulation.proofs.Composing.{join}
use Rattle.late_starts.specs.LateStarts.{ready, early, late, Follows}

module _ {E : Type 0} {A B : Lang E} {K : Kit A B} (C : Couple K) (Early : K.World → A.sorts.View → A.sorts.Shared → B.sorts.View → B.sorts.Shared → Type 0) (most : A.sorts.View → ℕ) where
  -- what is resumed is matched
  resumed_ready : (μ : K.World) (entry : Entry A.sorts) (w : B.sorts.View) (r : B.sorts.Ans) (t : B.sorts.Shared) → Resumed C μ entry w r t → Resumed (late C Early most) μ entry w r t
  resumed_ready μ (Enters v s) w r t is = (is.0, is.1, is.2, ready is.3)
  resumed_ready μ (Refused x) w r t is = is

  -- what is met by a target that is not late, within what is said
  met_ready : (μ : K.World) (w : B.sorts.View) (t : B.sorts.Shared) (k m : ℕ) (e : Event E A.sorts) → k ≤ m → Meets C μ w t k e → Meets (late C Early most) μ w t m e
  met_ready μ w t k m (Goes v s) few met =
      let few' : met.count ≤ k = met.few in
      record { count = met.count; view = met.view; shared = met.shared; does = met.does; few = omega arith; matched = ready met.matched }
  met_ready μ w t k m (Ends e v s) few met =
      let few' : met.count ≤ k = met.few in
      record { count = met.count; view = met.view; shared = met.shared; does = met.does; few = omega arith; halted = met.halted }
  met_ready μ w t k m (Calls v s n a) few met =
      let few' : C.spare + met.count ≤ k = met.few in
      record {
        count = met.count;
        view = met.view;
        shared = met.shared;
        name = met.name;
        arg = met.arg;
        does = met.does;
        few = omega arith;
        world = met.world;
        grows = met.grows;
        passed = met.passed;
        waits = met.waits;
        resumes = λ s' r t' r' given. resumed_ready μ (A.resume C.source v r s') met.view r' t' (met.resumes s' r t' r' given);
      }
  met_ready μ w t k m (Answers s r) few met =
      let few' : met.count ≤ k = met.few in
      record { count = met.count; shared = met.shared; ans = met.ans; does = met.does; few = omega arith; given = met.given }
  met_ready μ w t k m (Breaks x) few met = λ claimed.
      let b = met claimed in
      let few' : b.count ≤ k = b.few in
      record { count = b.count; event = b.event; does = b.does; few = omega arith; told = b.told }

  -- what is met behind a path of the target's own is met from where it begins
  met_behind : (μ : K.World) {w w' : B.sorts.View} {t t' : B.sorts.Shared} {n : ℕ} (m : ℕ) (e : Event E A.sorts) → Does B C.weight C.target w t n (Goes w' t') → Meets C μ w' t' m e → Meets C μ w t (n + m) e
  met_behind μ m (Goes v s) path met =
      let few' : met.count ≤ m = met.few in
      record { count = _; view = met.view; shared = met.shared; does = join path met.does; few = omega arith; matched = met.matched }
  met_behind μ m (Ends e v s) path met =
      let few' : met.count ≤ m = met.few in
      record { count = _; view = met.view; shared = met.shared; does = join path met.does; few = omega arith; halted = met.halted }
  met_behind μ m (Calls v s n a) path met =
      let few' : C.spare + met.count ≤ m = met.few in
      record {
        count = _;
        view = met.view;
        shared = met.shared;
        name = met.name;
        arg = met.arg;
        does = join path met.does;
        few = omega arith;
        world = met.world;
        grows = met.grows;
        passed = met.passed;
        waits = met.waits;
        resumes = met.resumes;
      }
  met_behind μ m (Answers s r) path met =
      let few' : met.count ≤ m = met.few in
      record { count = _; shared = met.shared; ans = met.ans; does = join path met.does; few = omega arith; given = met.given }
  met_behind μ m (Breaks x) path met = λ claimed.
      let b = met claimed in
      let few' : b.count ≤ m = b.few in
      record { count = _; event = b.event; does = join path b.does; few = omega arith; told = b.told }

  pub follows_late : ((v : A.sorts.View) → C.most v ≤ most v) → Follows C → Follows (late C Early most)
  follows_late more follows μ v s w t (ready matched) = met_ready μ w t (C.most v) (most v) (A.step C.source v s) (more v) (follows μ v s w t matched)
  follows_late more follows μ v s w t (early count view shared is path few matched) =
      met_ready μ w t (count + C.most v) (most v) (A.step C.source v s) few (met_behind μ (C.most v) (A.step C.source v s) path (follows μ v s view shared matched))
