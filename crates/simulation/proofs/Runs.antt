-- Runs: steps before and after, runs that are over or broken, paths of one view as steps of a run.
use Rattle.std.specs.Prelude.{◌≡◌, ℕ, zero, suc, ◌+◌, ◌≤◌, List, refl}
use Rattle.std.proofs.Common.{sym, ap, ◌∙◌, arith}
use Rattle.simulation.specs.Machine.{Event, Lang, Program, Frame, State, Runs, Over, Broken, act, next, run}
use Rattle.simulation.specs.LocalSimulation.{Does, last, more}

module _ {E : Type 0} (A : Lang E) (P : Program A.sorts) where
  -- a step first is as good as a step last
  pub run-next : (n : ℕ) (x : State E A.sorts) → run A P n (next A P x) ≡ run A P (suc n) x
  unfolding run
  run-next zero x = refl
  run-next (suc n) x = ap (next A P) (run-next n x)

  -- n steps and then k
  pub run-run : (k n : ℕ) (x : State E A.sorts) → run A P k (run A P n x) ≡ run A P (n + k) x
  unfolding run
  run-run zero n x = let e : n ≡ n + 0 = omega arith in ap (λ j. run A P j x) e
  run-run (suc k) n x =
      let e : suc (n + k) ≡ n + suc k = omega arith in
      ap (next A P) (run-run k n x) ∙ ap (λ j. run A P j x) e

  pub run-over : (n : ℕ) (e : E) (us : List (Frame A.sorts)) (s : A.sorts.Shared) → run A P n (Over e us s) ≡ Over e us s
  unfolding run next
  run-over zero e us s = refl
  run-over (suc n) e us s = ap (next A P) (run-over n e us s)

  pub run-broken : (n : ℕ) (f : A.sorts.Fault) (ks : List ℕ) → run A P n (Broken f ks) ≡ Broken f ks
  unfolding run next
  run-broken zero f ks = refl
  run-broken (suc n) f ks = ap (next A P) (run-broken n f ks)

module _ {E : Type 0} (B : Lang E) (Q : Program B.sorts) (j : ℕ) (fs : List (Frame B.sorts)) where
  -- a path has a last step, and the run gets there
  pub path_reaches : {w : B.sorts.View} {t : B.sorts.Shared} {n : ℕ} {e : Event E B.sorts} → Does B (λ v. 1) (Q.text j) w t n e →
      (m : ℕ) × (w' : B.sorts.View) × (t' : B.sorts.Shared) × (n ≡ suc m) × (run B Q m (Runs j w fs t) ≡ Runs j w' fs t') × (B.step (Q.text j) w' t' ≡ e)
  unfolding run next act
  path_reaches (last {w = w} {t = t} step weighs) = (0, w, t, weighs, refl, step)
  path_reaches (more {w = w} {t = t} {n = n} {m = m} step rest weighs) =
      let r = path_reaches rest in
      let first : next B Q (Runs j w fs t) ≡ Runs j _ fs _ = ap (λ x. act B Q x j fs) step in
      let size : m ≡ suc r.0 = r.3 in
      let count : n ≡ suc (suc r.0) = omega arith in
      (suc r.0, r.1, r.2, count, sym (run-next B Q r.0 (Runs j w fs t)) ∙ ap (run B Q r.0) first ∙ r.4, r.5)

  -- the whole path, with what its event makes of the run
  pub path_runs : {w : B.sorts.View} {t : B.sorts.Shared} {n : ℕ} {e : Event E B.sorts} → Does B (λ v. 1) (Q.text j) w t n e →
      run B Q n (Runs j w fs t) ≡ act B Q e j fs
  unfolding run next act
  path_runs {w = w} {t = t} {e = e} p =
      let r = path_reaches p in
      ap (λ k. run B Q k (Runs j w fs t)) r.3 ∙ ap (next B Q) r.4 ∙ ap (λ x. act B Q x j fs) r.5

  pub path_some : {w : B.sorts.View} {t : B.sorts.Shared} {n : ℕ} {e : Event E B.sorts} → Does B (λ v. 1) (Q.text j) w t n e → 1 ≤ n
  path_some {n = n} p = let r = path_reaches p in let h : n ≡ suc r.0 = r.3 in omega arith
