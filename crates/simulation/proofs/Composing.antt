-- Composition: two local simulations, one above the other, are one.
use Rattle.std.specs.Prelude.{◌≡◌, ℕ, ◌+◌, ◌≤◌, Option, Some, None}
use Rattle.std.proofs.Common.{sym, ap, subst, arith}
use Rattle.simulation.specs.Machine.{Event, Goes, Ends, Calls, Answers, Breaks, Entry, Enters, Refused, Lang}
use Rattle.simulation.specs.LocalSimulation.{Does, last, more, Kit, Couple, StepMet, Resumed, Started, Entered, Opened, Meets, Local}
use Rattle.simulation.specs.Composition.{composite_kit, composite_couple, below_of, Composable}

-- a path and then a path
pub join : {E : Type 0} {B : Lang E} {weight : B.sorts.View → ℕ} {c : B.sorts.Code} {w w' : B.sorts.View} {t t' : B.sorts.Shared} {n m : ℕ} {e : Event E B.sorts} →
    Does B weight c w t n (Goes w' t') → Does B weight c w' t' m e → Does B weight c w t (n + m) e
join {m = m} (last step weighs) after = more step after (ap (λ k. k + m) weighs)
join {weight = weight} {w = w} {n = n} {m = m} (more {m = k} step rest weighs) after =
    let sum : n + m ≡ weight w + (k + m) = omega arith in
    more step (join rest after) sum

-- what is met after a path is met from its start
after_path : {E : Type 0} {A B : Lang E} {K : Kit A B} (C : Couple K) (μ : K.World) {w w' : B.sorts.View} {t t' : B.sorts.Shared} {n : ℕ} (k m : ℕ)
    (e : Event E A.sorts) → Does B C.weight C.target w t n (Goes w' t') → n ≤ k → Meets C μ w' t' m e → Meets C μ w t (k + m) e
after_path C μ k m (Goes v s) path few met =
    let few' : met.count ≤ m = met.few in
    record { count = _; view = met.view; shared = met.shared; does = join path met.does; few = omega arith; matched = met.matched }
after_path C μ k m (Ends e v s) path few met =
    let few' : met.count ≤ m = met.few in
    record { count = _; view = met.view; shared = met.shared; does = join path met.does; few = omega arith; halted = met.halted }
after_path C μ k m (Calls v s n a) path few met =
    let few' : C.spare + met.count ≤ m = met.few in
    record {
      count = _;
      view = met.view;
      shared = met.shared;
      name = met.name;
      arg = met.arg;
      does = join path met.does;
      few = omega arith;
      world = met.world;
      grows = met.grows;
      passed = met.passed;
      waits = met.waits;
      resumes = met.resumes;
    }
after_path C μ k m (Answers s r) path few met =
    let few' : met.count ≤ m = met.few in
    record { count = _; shared = met.shared; ans = met.ans; does = join path met.does; few = omega arith; given = met.given }
after_path C μ k m (Breaks x) path few met = λ claimed.
    let b = met claimed in
    let few' : b.count ≤ m = b.few in
    record { count = _; event = b.event; does = join path b.does; few = omega arith; told = b.told }

-- a target follows a whole path of its source, within what the path weighs
pub along : {E : Type 0} {A B : Lang E} {K : Kit A B} (C : Couple K) → Local C → (μ : K.World) {v : A.sorts.View} {s : A.sorts.Shared} {n : ℕ} {e : Event E A.sorts} →
    Does A C.most C.source v s n e → (w : B.sorts.View) (t : B.sorts.Shared) → C.pairing.Matched μ v s w t → Meets C μ w t n e
along C simulated μ {v = v} {s = s} {e = e} (last step weighs) w t matched =
    subst (λ k. Meets C μ w t k e) (sym weighs) (subst (λ x. Meets C μ w t (C.most v) x) step (simulated.follows μ v s w t matched))
along C simulated μ {v = v} {s = s} {e = e} (more {w' = v'} {t' = s'} {m = m} step rest weighs) w t matched =
    let first : StepMet C μ w t (C.most v) v' s' = subst (λ x. Meets C μ w t (C.most v) x) step (simulated.follows μ v s w t matched) in
    subst (λ k. Meets C μ w t k e) (sym weighs)
    (after_path C μ (C.most v) m e first.does first.few (along C simulated μ rest first.view first.shared first.matched))

module _ {E : Type 0} {A B C : Lang E} {K : Kit A B} {J : Kit B C} (c : Couple K) (d : Couple J) (composable : Composable J c) (upper : Local c) (lower : Local (below_of c d)) where
  resumed_both : (μ : (composite_kit K J).World) (q : B.sorts.Ans) (m : B.sorts.Shared) (x : B.sorts.View) (w : C.sorts.View) (r : C.sorts.Ans) (t : C.sorts.Shared) (y : Entry A.sorts) →
      Resumed c μ.0 y x q m → Resumed (below_of c d) μ.1 (B.resume c.target x q m) w r t → Resumed (composite_couple c d) μ y w r t
  resumed_both μ q m x w r t (Enters v s) above under =
      let below = subst (λ z. Resumed (below_of c d) μ.1 z w r t) above.2 under in
      (below.0, below.1, below.2, (above.0, above.1, above.3, below.3))
  resumed_both μ q m x w r t (Refused f) above under = above

  both_meet : (μ : (composite_kit K J).World) (x : B.sorts.View) (m : B.sorts.Shared) (w : C.sorts.View) (t : C.sorts.Shared) (most : ℕ) (e : Event E A.sorts) →
      Meets c μ.0 x m most e → d.pairing.Matched μ.1 x m w t → Meets (composite_couple c d) μ w t most e
  both_meet μ x m w t most (Goes v s) up matched =
      let down = along (below_of c d) lower μ.1 up.does w t matched in
      let few : up.count ≤ most = up.few in
      let few' : down.count ≤ up.count = down.few in
      record { count = down.count; view = down.view; shared = down.shared; does = down.does; few = omega arith; matched = (up.view, up.shared, up.matched, down.matched) }
  both_meet μ x m w t most (Ends e v s) up matched =
      let down = along (below_of c d) lower μ.1 up.does w t matched in
      let few : up.count ≤ most = up.few in
      let few' : down.count ≤ up.count = down.few in
      record { count = down.count; view = down.view; shared = down.shared; does = down.does; few = omega arith; halted = (up.view, up.shared, up.halted, down.halted) }
  both_meet μ x m w t most (Calls v s n a) up matched =
      let down = along (below_of c d) lower μ.1 up.does w t matched in
      let few : c.spare + up.count ≤ most = up.few in
      let few' : d.spare + down.count ≤ up.count = down.few in
      record {
        count = down.count;
        view = down.view;
        shared = down.shared;
        name = down.name;
        arg = down.arg;
        does = down.does;
        few = omega arith;
        world = (up.world, down.world);
        grows = (up.grows, down.grows);
        passed = (up.shared, up.name, up.arg, up.passed, down.passed);
        waits = (up.view, up.waits, down.waits);
        resumes = λ s' r t' r' given. resumed_both μ given.1 given.0 up.view down.view r' t' (A.resume c.source v r s')
            (up.resumes s' r given.0 given.1 given.2) (down.resumes given.0 given.1 t' r' given.3);
      }
  both_meet μ x m w t most (Answers s r) up matched =
      let down = along (below_of c d) lower μ.1 up.does w t matched in
      let few : up.count ≤ most = up.few in
      let few' : down.count ≤ up.count = down.few in
      record { count = down.count; shared = down.shared; ans = down.ans; does = down.does; few = omega arith; given = (up.shared, up.ans, up.given, down.given) }
  both_meet μ x m w t most (Breaks f) met matched = λ claimed.
      let up = met claimed in
      let told = composable.tells f up.event up.told in
      let down = along (below_of c d) lower μ.1 (subst (λ e. Does B c.weight c.target x m up.count e) told.1 up.does) w t matched told.2 in
      let few : up.count ≤ most = up.few in
      let few' : down.count ≤ up.count = down.few in
      record { count = down.count; event = down.event; does = down.does; few = omega arith; told = (told.0, subst (K.Told f) told.1 up.told, down.told) }

  both_enter : (μ : (composite_kit K J).World) (v : A.sorts.View) (s : A.sorts.Shared) (x : B.sorts.View) (m : B.sorts.Shared) (t : C.sorts.Shared) (n : C.sorts.Name) (a : C.sorts.Arg) (o : Option C.sorts.Code) →
      c.pairing.Matched μ.0 v s x m → Entered (below_of c d) μ.1 o x m t n a → Entered (composite_couple c d) μ o v s t n a
  both_enter μ v s x m t n a None above e =
      record { view = e.view; shared = e.shared; starts = e.starts; matched = (x, m, above, e.matched) }
  both_enter μ v s x m t n a (Some g) above e = record {
    view = e.view;
    shared = e.shared;
    starts = e.starts;
    waiting = e.waiting;
    passed = e.passed;
    arg = e.arg;
    calls = e.calls;
    world = (μ.0, e.world);
    grows = (composable.stays c.number μ.0, e.grows);
    started = record { view = e.started.view; shared = e.started.shared; starts = e.started.starts; matched = (x, m, above, e.started.matched) };
    hands_on = λ s' r t' r' given.
        let h = e.hands_on given.0 given.1 t' r' given.3 in
        record { view = h.view; shared = h.shared; resumes = h.resumes; answered = h.answered; ans = h.ans; answers = h.answers; given = (given.0, given.1, given.2, h.given) };
  }

  both_open : (μ : (composite_kit K J).World) (m : B.sorts.Shared) (k : B.sorts.Name) (b : B.sorts.Arg) (t : C.sorts.Shared) (n : C.sorts.Name) (a : C.sorts.Arg) (y : Entry A.sorts) →
      Opened c μ.0 y m k b → Opened (below_of c d) μ.1 (B.start c.target k b m) t n a → Opened (composite_couple c d) μ y t n a
  both_open μ m k b t n a (Enters v s) above under =
      let up : Started c μ.0 v s m k b = subst (λ o. Entered c μ.0 o v s m k b) (composable.bare k) above in
      both_enter μ v s up.view up.shared t n a (d.wrapper n) up.matched (subst (λ z. Opened (below_of c d) μ.1 z t n a) up.starts under)
  both_open μ m k b t n a (Refused f) above under = tt

  -- COMPOSITION: the two layers together are one local simulation.
  pub composite_simulates : Local (composite_couple c d)
  composite_simulates = record {
    starts = λ μ s n a t n' a' houses idle passed.
        both_open μ passed.0 passed.1 passed.2 t n' a' (A.start c.source n a s)
        (upper.starts μ.0 s n a passed.0 passed.1 passed.2 houses.0 idle.0 passed.3)
        (lower.starts μ.1 passed.0 passed.1 passed.2 t n' a' houses.1 idle.1 passed.4);
    refuses = upper.refuses;
    follows = λ μ v s w t matched.
        both_meet μ matched.0 matched.1 w t (c.most v) (A.step c.source v s) (upper.follows μ.0 v s matched.0 matched.1 matched.2) matched.3;
  }
