-- The law: local simulation of every text carries to whole runs; and its corollaries.
use Rattle.std.specs.Prelude.{◌≡◌, ℕ, zero, suc, ◌+◌, ◌*◌, ◌≤◌, Bool, true, false, ◌||◌, nat_eq, List, [], ◌∷◌, Option, Some, None, option_map, unwrap_or, refl}
use Rattle.std.proofs.Common.{sym, ap, ◌∙◌, subst, arith, true≢false}
use Rattle.std.proofs.lemmas.Bool.{eqb-true, eq-eqb}
use Rattle.simulation.specs.Machine.{Event, Goes, Ends, Calls, Answers, Breaks, Entry, Enters, Refused, Lang, Program, Frame, Has, State, Runs, Over, numbers, active, entering, unless_active, opening, calling, answering, act, next, run}
use Rattle.simulation.specs.LocalSimulation.{Kit, Resumed, Entered, Opened, Meets}
use Rattle.simulation.specs.Law.{Linking, couple, Linked, Home, Below, bottom, caller, wrapped, Alike, running, over, finished, undefined, Faithful}
use Rattle.simulation.proofs.Runs.{run-run, path_runs, path_some}

or_no : (a b : Bool) → (a || b) ≡ false → (a ≡ false) × (b ≡ false)
or_no true b h = absurd (true≢false h)
or_no false b h = (refl, h)

no_or : (a b : Bool) → a ≡ false → b ≡ false → (a || b) ≡ false
no_or a b h k = ap (λ x. x || b) h ∙ k

-- numbers that a function tells apart differ
apart : (f : ℕ → ℕ) (k k' : ℕ) → nat_eq (f k) (f k') ≡ false → nat_eq k k' ≡ false
apart f k k' h = go (nat_eq k k') refl
  where
    go : (b : Bool) → nat_eq k k' ≡ b → nat_eq k k' ≡ false
    go false e = e
    go true e = absurd (true≢false (sym (eq-eqb (f k) (f k') (ap f (eqb-true k k' e))) ∙ h))

apart_by_test : (f : ℕ → Bool) (k k' : ℕ) → f k ≡ false → f k' ≡ true → nat_eq k k' ≡ false
apart_by_test f k k' h h' = go (nat_eq k k') refl
  where
    go : (b : Bool) → nat_eq k k' ≡ b → nat_eq k k' ≡ false
    go false e = e
    go true e = absurd (true≢false (sym h' ∙ sym (ap f (eqb-true k k' e)) ∙ h))

-- the steps by which a wrapper, if there is one, calls its text
abbrev pub wrapping : Option ℕ → ℕ
wrapping None = 0
wrapping (Some g) = 1

wrapping-one : (o : Option ℕ) → wrapping o ≤ 1
wrapping-one None = omega arith
wrapping-one (Some g) = omega arith

module _ {E : Type 0} {A B : Lang E} {K : Kit A B} {P : Program A.sorts} {Q : Program B.sorts} (L : Linking K P Q) where
  -- a home says nothing of the view of an active text
  rehomed : {μ : K.World} {i : ℕ} {v v' : A.sorts.View} {us : List (Frame A.sorts)} → Home L μ (Has i v ∷ us) → Home L μ (Has i v' ∷ us)
  unfolding active
  rehomed h = record { houses = h.houses; idle = h.idle }

module _ {E : Type 0} {A B : Lang E} {K : Kit A B} {P : Program A.sorts} {Q : Program B.sorts} (L : Linking K P Q) (W : ℕ) (linked : Linked L W) where
  -- a world that text i has grown houses all, and keeps the frames of all others idle
  grown : {μ μ' : K.World} {i : ℕ} {v : A.sorts.View} {us : List (Frame A.sorts)} → K.Grows i μ μ' → Home L μ (Has i v ∷ us) → Home L μ' (Has i v ∷ us)
  unfolding active
  grown {μ = μ} {μ' = μ'} {i = i} {us = us} g h = record {
    houses = λ j k. linked.grows_houses i j μ μ' k g (h.houses j k);
    idle = λ j k e. let parts = or_no (nat_eq j i) (active j us) e in linked.grows_idle i j μ μ' k parts.0 g (h.idle j k e);
  }

  -- a text that has been entered is one more whose frame is its own
  entered_home : {μ μ' : K.World} {j : ℕ} {v : A.sorts.View} {us : List (Frame A.sorts)} → K.Grows j μ μ' → Home L μ us → Home L μ' (Has j v ∷ us)
  unfolding active
  entered_home {μ = μ} {μ' = μ'} {j = j} {us = us} g h = record {
    houses = λ k known. linked.grows_houses j k μ μ' known g (h.houses k known);
    idle = λ k known e. let parts = or_no (nat_eq k j) (active k us) e in linked.grows_idle j k μ μ' known parts.0 g (h.idle k known parts.1);
  }

  one_more : {μ : K.World} {j : ℕ} {v : A.sorts.View} {us : List (Frame A.sorts)} → Home L μ us → Home L μ (Has j v ∷ us)
  unfolding active
  one_more {j = j} {us = us} h = record {
    houses = h.houses;
    idle = λ k known e. let parts = or_no (nat_eq k j) (active k us) e in h.idle k known parts.1;
  }

  -- a frame of the target belongs to an active text of the source
  quiet : {b : Bool} {μ : K.World} {i : ℕ} {us : List (Frame A.sorts)} {fs : List (Frame B.sorts)} → Below L b μ i us fs → (j k : ℕ) → L.owner k ≡ j → nat_eq j i ≡ false → active j us ≡ false → active k fs ≡ false
  unfolding active
  quiet (bottom houses) j k owned other absent = refl
  quiet (caller {j = i'} {us = us} {fs = fs} known home grows waits resumes below) j k owned other absent =
      let parts = or_no (nat_eq j i') (active j us) absent in
      let mine : nat_eq (L.owner k) (L.owner (L.image i')) ≡ false = ap (λ x. nat_eq x (L.owner (L.image i'))) owned ∙ ap (nat_eq j) (linked.image_owner i') ∙ parts.0 in
      no_or (nat_eq k (L.image i')) (active k fs) (apart L.owner k (L.image i') mine) (quiet below j k owned parts.0 parts.1)
  quiet (wrapped {i = i} {g = g} {n = n} {fs = fs} named grows hands_on below) j k owned other absent =
      let mine : nat_eq (L.owner k) (L.owner g) ≡ false = ap (λ x. nat_eq x (L.owner g)) owned ∙ ap (nat_eq j) (linked.wrapper_owner i n g named) ∙ other in
      no_or (nat_eq k g) (active k fs) (apart L.owner k g mine) (quiet below j k owned other absent)

  -- an answered caller goes on beside its image
  resumed_alike : {b : Bool} {μ : K.World} {j : ℕ} {us : List (Frame A.sorts)} {fs : List (Frame B.sorts)} {v : A.sorts.View} (w : B.sorts.View) (r' : B.sorts.Ans) (t : B.sorts.Shared) (from from' : List ℕ)
      (x : Entry A.sorts) → Resumed (couple L j) μ x w r' t → L.Known j → Home L μ (Has j v ∷ us) → Below L b μ j us fs →
      Alike L (entering x from j us) (entering (B.resume (Q.text (L.image j)) w r' t) from' (L.image j) fs)
  unfolding entering
  resumed_alike {j = j} {us = us} {fs = fs} w r' t from from' (Enters v s) met known home below =
      subst (λ y. Alike L (Runs j v us s) (entering y from' (L.image j) fs)) (sym met.2) (running known (rehomed L home) met.3 below)
  resumed_alike w r' t from from' (Refused f) met known home below = undefined

  -- an answer, where no wrapper stands between
  answered_directly : {μ : K.World} {i : ℕ} (f : ℕ) {us : List (Frame A.sorts)} {fs : List (Frame B.sorts)} {s : A.sorts.Shared} {r : A.sorts.Ans} {t : B.sorts.Shared} {r' : B.sorts.Ans} →
      Below L false μ i us fs → K.Given μ s r t r' → Alike L (answering A P i us s r) (answering B Q f fs t r')
  unfolding answering
  answered_directly f {s = s} {t = t} (bottom houses) given =
      subst (λ e. Alike L (Over A.plain [] s) (Over e [] t)) linked.same_plain (finished houses given)
  answered_directly f {s = s} {r = r} {t = t} {r' = r'} (caller {j = j} {v = v} {w = w} known home grows waits resumes below) given =
      resumed_alike w r' t _ _ (A.resume (P.text j) v r s) (resumes s r t r' given) known home below

  -- an answer through a wrapper takes the step by which the wrapper hands it on
  answered_wrapped : {μ : K.World} {i : ℕ} (f : ℕ) {us : List (Frame A.sorts)} {fs : List (Frame B.sorts)} {s : A.sorts.Shared} {r : A.sorts.Ans} {t : B.sorts.Shared} {r' : B.sorts.Ans} →
      Below L true μ i us fs → K.Given μ s r t r' → Alike L (answering A P i us s r) (run B Q 1 (answering B Q f fs t r'))
  unfolding answering entering run next act
  answered_wrapped {i = i} f {us = us} {s = s} {r = r} {t = t} {r' = r'} (wrapped {g = g} {w = w} {fs = fs} named grows hands_on below) given =
      let h = hands_on s r t r' given in
      let enters : next B Q (entering (B.resume (Q.text g) w r' t) (f ∷ g ∷ numbers fs) g fs) ≡ act B Q (B.step (Q.text g) h.view h.shared) g fs =
      ap (λ x. next B Q (entering x (f ∷ g ∷ numbers fs) g fs)) h.resumes in
      let answers : act B Q (B.step (Q.text g) h.view h.shared) g fs ≡ answering B Q g fs h.answered h.ans =
      ap (λ x. act B Q x g fs) h.answers in
      subst (λ y. Alike L (answering A P i us s r) y) (sym (enters ∙ answers)) (answered_directly g below h.given)

  -- the call of a target text that is not active and accepts the call
  called : (n : B.sorts.Name) (a : B.sorts.Arg) (t : B.sorts.Shared) (k : ℕ) (fs : List (Frame B.sorts)) (w : B.sorts.View) (t' : B.sorts.Shared) →
      Q.find n ≡ Some k → B.start (Q.text k) n a t ≡ Enters w t' → active k fs ≡ false → calling B Q (Q.find n) n a t fs ≡ Runs k w fs t'
  unfolding calling opening unless_active
  called n a t k fs w t' found starts idle =
      ap (λ o. calling B Q o n a t fs) found ∙ ap (λ x. opening B x k fs) starts ∙ ap (λ b. unless_active b B.busy w t' k fs) idle

  -- a text that is called is entered on both sides, through its wrapper where the name has one
  entered_alike : {μ : K.World} {j : ℕ} {us : List (Frame A.sorts)} {fs : List (Frame B.sorts)} (v : A.sorts.View) (s : A.sorts.Shared) (n : B.sorts.Name) (a : B.sorts.Arg) (t : B.sorts.Shared)
      (o : Option ℕ) → L.wrapper j n ≡ o → Q.find n ≡ Some (unwrap_or o (L.image j)) →
      L.Known j → Home L μ us → Below L false μ j us fs → ((k : ℕ) → L.owner k ≡ j → active k fs ≡ false) →
      Entered (couple L j) μ (option_map Q.text o) v s t n a →
      (k : ℕ) × (k ≤ wrapping o) × Alike L (Runs j v us s) (run B Q k (calling B Q (Q.find n) n a t fs))
  unfolding run next act active
  entered_alike {j = j} {us = us} {fs = fs} v s n a t None named found known home below free started =
      let e = called n a t (L.image j) fs started.view started.shared found started.starts (free (L.image j) (linked.image_owner j)) in
      (0, omega arith, subst (λ y. Alike L (Runs j v us s) y) (sym e) (running known (one_more home) started.matched below))
  entered_alike {j = j} {us = us} {fs = fs} v s n a t (Some g) named found known home below free w =
      let outside = called n a t g fs w.view w.shared found w.starts (free g (linked.wrapper_owner j n g named)) in
      let one = ap (next B Q) outside ∙ ap (λ x. act B Q x g fs) w.calls in
      let apart_from : nat_eq (L.image j) g ≡ false = apart_by_test L.outer (L.image j) g (linked.image_inner j) (linked.wrapper_outer j n g named) in
      let free_inside : active (L.image j) (Has g w.waiting ∷ fs) ≡ false = no_or (nat_eq (L.image j) g) (active (L.image j) fs) apart_from (free (L.image j) (linked.image_owner j)) in
      let inside = called (L.inner j) w.arg w.passed (L.image j) (Has g w.waiting ∷ fs) w.started.view w.started.shared (linked.finds_inner j known) w.started.starts free_inside in
      (1, omega arith, subst (λ y. Alike L (Runs j v us s) y) (sym (one ∙ inside)) (running known (entered_home w.grows home) w.started.matched (wrapped named w.grows w.hands_on below)))

  -- a call of text j, whose start is x, on both sides
  pub opened_alike : {μ : K.World} {j : ℕ} {us : List (Frame A.sorts)} {fs : List (Frame B.sorts)} (n : B.sorts.Name) (a : B.sorts.Arg) (t : B.sorts.Shared)
      (x : Entry A.sorts) (b : Bool) → active j us ≡ b → (b ≡ false → Opened (couple L j) μ x t n a) →
      Q.find n ≡ Some (unwrap_or (L.wrapper j n) (L.image j)) →
      L.Known j → Home L μ us → Below L false μ j us fs → ((k : ℕ) → L.owner k ≡ j → active j us ≡ false → active k fs ≡ false) →
      (k : ℕ) × (k ≤ wrapping (L.wrapper j n)) × Alike L (opening A x j us) (run B Q k (calling B Q (Q.find n) n a t fs))
  unfolding opening unless_active
  opened_alike n a t (Refused f) b e opened found known home below free = (0, omega arith, undefined)
  opened_alike {j = j} {us = us} {fs = fs} n a t (Enters v s) true e opened found known home below free =
      (0, omega arith, subst (λ c. Alike L (unless_active c A.busy v s j us) (run B Q 0 (calling B Q (Q.find n) n a t fs))) (sym e) undefined)
  opened_alike {j = j} {us = us} {fs = fs} n a t (Enters v s) false e opened found known home below free =
      let r = entered_alike v s n a t (L.wrapper j n) refl found known home below (λ k owned. free k owned e) (opened refl) in
      (r.0, r.1, subst (λ c. Alike L (unless_active c A.busy v s j us) (run B Q r.0 (calling B Q (Q.find n) n a t fs))) (sym e) r.2)

  -- a call on both sides, by the number that the source finds
  called_alike : {μ : K.World} {us : List (Frame A.sorts)} {fs : List (Frame B.sorts)} (n : A.sorts.Name) (a : A.sorts.Arg) (s : A.sorts.Shared) (n' : B.sorts.Name) (a' : B.sorts.Arg) (t : B.sorts.Shared)
      (o : Option ℕ) → P.find n ≡ o → K.Passed μ s n a t n' a' → Home L μ us →
      ((j : ℕ) → Below L false μ j us fs) → ((j k : ℕ) → L.owner k ≡ j → active j us ≡ false → active k fs ≡ false) →
      (k : ℕ) × (k ≤ 1) × Alike L (calling A P o n a s us) (run B Q k (calling B Q (Q.find n') n' a' t fs))
  unfolding calling
  called_alike n a s n' a' t None found passed home below free = (0, omega arith, undefined)
  called_alike {μ = μ} {us = us} n a s n' a' t (Some j) found passed home below free =
      let known = linked.known n j found in
      let small : wrapping (L.wrapper j n') ≤ 1 = wrapping-one (L.wrapper j n') in
      let r = opened_alike n' a' t (A.start (P.text j) n a s) (active j us) refl
      (λ idle. (linked.simulated j known).starts μ s n a t n' a' (home.houses j known) (home.idle j known idle) passed)
      (linked.finds μ s n a t n' a' j passed found) known home (below j) (free j) in
      let few : r.0 ≤ wrapping (L.wrapper j n') = r.1 in
      (r.0, omega arith, r.2)

  -- what is not active in the source is not active in the target, beside the frame of text i
  quiet_frame : {b : Bool} {μ : K.World} {i : ℕ} {us : List (Frame A.sorts)} {fs : List (Frame B.sorts)} (v : A.sorts.View) (w : B.sorts.View) → Below L b μ i us fs →
      (j k : ℕ) → L.owner k ≡ j → active j (Has i v ∷ us) ≡ false → active k (Has (L.image i) w ∷ fs) ≡ false
  unfolding active
  quiet_frame {i = i} {us = us} {fs = fs} v w below j k owned absent =
      let parts = or_no (nat_eq j i) (active j us) absent in
      let mine : nat_eq (L.owner k) (L.owner (L.image i)) ≡ false = ap (λ x. nat_eq x (L.owner (L.image i))) owned ∙ ap (nat_eq j) (linked.image_owner i) ∙ parts.0 in
      no_or (nat_eq k (L.image i)) (active k fs) (apart L.owner k (L.image i) mine) (quiet below j k owned parts.0 parts.1)

  answers_alike : (b : Bool) {μ : K.World} {i : ℕ} {us : List (Frame A.sorts)} {fs : List (Frame B.sorts)} {s : A.sorts.Shared} {r : A.sorts.Ans} {t : B.sorts.Shared} {r' : B.sorts.Ans} →
      L.Known i → Below L b μ i us fs → K.Given μ s r t r' →
      (k : ℕ) × (L.width i + k ≤ W) × Alike L (answering A P i us s r) (run B Q k (answering B Q (L.image i) fs t r'))
  unfolding run
  answers_alike false {i = i} known below given =
      let narrow : L.width i ≤ W = linked.narrow i known in
      (0, omega arith, answered_directly (L.image i) below given)
  answers_alike true {i = i} known below given = (1, wide below known, answered_wrapped (L.image i) below given)
    where
      wide : {μ : K.World} {i : ℕ} {us : List (Frame A.sorts)} {fs : List (Frame B.sorts)} → Below L true μ i us fs → L.Known i → L.width i + 1 ≤ W
      wide (wrapped {i = i} {g = g} {n = n} named grows hands_on below) known =
          let narrow : suc (L.width i) ≤ W = linked.narrow_wrapped i n g known named in omega arith

  -- the target follows one step of the source
  meets_alike : {b : Bool} {μ : K.World} {i : ℕ} (v₀ : A.sorts.View) (w : B.sorts.View) (t : B.sorts.Shared) {us : List (Frame A.sorts)} {fs : List (Frame B.sorts)}
      (e : Event E A.sorts) → Meets (couple L i) μ w t (L.width i) e → L.Known i → Home L μ (Has i v₀ ∷ us) → Below L b μ i us fs →
      (k : ℕ) × (1 ≤ k) × (k ≤ W) × Alike L (act A P e i us) (run B Q k (Runs (L.image i) w fs t))
  unfolding act
  meets_alike {i = i} v₀ w t {us = us} {fs = fs} (Goes v s) met known home below =
      let narrow : L.width i ≤ W = linked.narrow i known in
      let few : met.count ≤ L.width i = met.few in (
        met.count,
        path_some B Q (L.image i) fs met.does,
        omega arith,
        subst (λ y. Alike L (Runs i v us s) y) (sym (path_runs B Q (L.image i) fs met.does)) (running known (rehomed L home) met.matched below),
      )
  meets_alike {i = i} v₀ w t {us = us} {fs = fs} (Ends e v s) met known home below =
      let narrow : L.width i ≤ W = linked.narrow i known in
      let few : met.count ≤ L.width i = met.few in (
        met.count,
        path_some B Q (L.image i) fs met.does,
        omega arith,
        subst (λ y. Alike L (Over e (Has i v ∷ us) s) y) (sym (path_runs B Q (L.image i) fs met.does)) (over known (rehomed L home) met.halted below),
      )
  meets_alike {μ = μ} {i = i} v₀ w t {us = us} {fs = fs} (Calls v s n a) met known home below =
      let narrow : L.width i ≤ W = linked.narrow i known in
      let few : 1 + met.count ≤ L.width i = met.few in
      let some : 1 ≤ met.count = path_some B Q (L.image i) fs met.does in
      let home_here : Home L μ (Has i v ∷ us) = rehomed L home in
      let r = called_alike n a s met.name met.arg met.shared (P.find n) refl met.passed (grown met.grows home_here)
      (λ j. caller {μ₀ = μ} {v = v} {w = met.view} known home_here met.grows met.waits met.resumes below)
      (λ j k owned absent. quiet_frame v met.view below j k owned absent) in
      let most : r.0 ≤ 1 = r.1 in (
        met.count + r.0,
        omega arith,
        omega arith,
        subst (λ y. Alike L (calling A P (P.find n) n a s (Has i v ∷ us)) y)
            (sym (sym (run-run B Q r.0 met.count (Runs (L.image i) w fs t)) ∙ ap (run B Q r.0) (path_runs B Q (L.image i) fs met.does))) r.2,
      )
  meets_alike {b = b} {i = i} v₀ w t {us = us} {fs = fs} (Answers s r) met known home below =
      let few : met.count ≤ L.width i = met.few in
      let some : 1 ≤ met.count = path_some B Q (L.image i) fs met.does in
      let q = answers_alike b known below met.given in
      let most : L.width i + q.0 ≤ W = q.1 in (
        met.count + q.0,
        omega arith,
        omega arith,
        subst (λ y. Alike L (answering A P i us s r) y)
            (sym (sym (run-run B Q q.0 met.count (Runs (L.image i) w fs t)) ∙ ap (run B Q q.0) (path_runs B Q (L.image i) fs met.does))) q.2,
      )
  meets_alike v₀ w t (Breaks x) met known home below = (1, omega arith, linked.some_step, undefined)

  -- one step of the source, 1 to W of the target
  pub follow : {x : State E A.sorts} {y : State E B.sorts} → Alike L x y → (k : ℕ) × (1 ≤ k) × (k ≤ W) × Alike L (next A P x) (run B Q k y)
  unfolding next run
  follow (running {μ = μ} {i = i} {v = v} {s = s} {w = w} {t = t} known home matched below) =
      meets_alike v w t (A.step (P.text i) v s) ((linked.simulated i known).follows μ v s w t matched) known home below
  follow (over known home halted below) = (1, omega arith, linked.some_step, over known home halted below)
  follow (finished houses given) = (1, omega arith, linked.some_step, finished houses given)
  follow undefined = (1, omega arith, linked.some_step, undefined)

  -- THE LAW: local simulation of every text makes whole runs faithful.
  pub law : {x : State E A.sorts} {y : State E B.sorts} → Alike L x y → Faithful L W x y
  unfolding run
  law alike zero = (0, omega arith, omega arith, alike)
  law {x = x} {y = y} alike (suc n) =
      let r = law alike n in
      let f = follow r.3 in
      let low : n ≤ r.0 = r.1 in
      let high : r.0 ≤ W * n = r.2 in
      let some : 1 ≤ f.0 = f.1 in
      let few : f.0 ≤ W = f.2 in
      let size : W * suc n ≡ W * n + W = omega arith in
      (r.0 + f.0, omega arith, omega arith, subst (λ z. Alike L (next A P (run A P n x)) z) (run-run B Q f.0 r.0 y) f.3)
