-- What the law says of runs that begin, that end, that break, and that break by a claimed fault.
use Rattle.std.specs.Prelude.{◌≡◌, ℕ, suc, ◌+◌, ◌-◌, ◌*◌, ◌≤◌, Bool, true, false, List, [], ◌∷◌, Option, Some, None, map, refl}
use Rattle.std.proofs.Common.{sym, ap, ◌∙◌, subst, arith}
use Rattle.simulation.specs.Machine.{Sorts, Event, Goes, Ends, Calls, Answers, Breaks, Entry, Enters, Refused, Lang, Program, Frame, Has, State, Runs, Over, Broken, numbers, active, entering, unless_active, opening, calling, answering, act, next, run, begun}
use Rattle.simulation.specs.LocalSimulation.{Kit, Resumed, Meets}
use Rattle.simulation.specs.Law.{Linking, couple, Linked, Home, Below, bottom, caller, wrapped, Alike, running, over, finished, undefined, EndsAlike, BreaksLater, Tells, tells, Reports, unless_so, without, SameTexts}
use Rattle.simulation.proofs.Runs.{run-run, run-over, run-broken, path_reaches}
use Rattle.simulation.proofs.LawProof.{law, wrapping, opened_alike}

-- the state is broken by this fault
abbrev BreaksBy : {E : Type 0} {L : Sorts} → State E L → L.Fault → Type 0
BreaksBy (Runs k v us s) f = ⊥
BreaksBy (Over e us s) f = ⊥
BreaksBy (Broken g ks) f = g ≡ f

module _ {E : Type 0} {A B : Lang E} {K : Kit A B} {P : Program A.sorts} {Q : Program B.sorts} (L : Linking K P Q) where
  over_of : {e : E} {us : List (Frame A.sorts)} {s : A.sorts.Shared} {y : State E B.sorts} → Alike L (Over e us s) y →
      (fs : List (Frame B.sorts)) × (t : B.sorts.Shared) × (y ≡ Over e fs t) × Alike L (Over e us s) (Over e fs t)
  over_of (over {i = i} {w = w} {t = t} {fs = fs} known home halted below) = (Has (L.image i) w ∷ fs, t, refl, over known home halted below)
  over_of (finished {t = t} houses given) = ([], t, refl, finished houses given)

  broken_of : {x : State E A.sorts} {f : B.sorts.Fault} {ks : List ℕ} → Alike L x (Broken f ks) → (g : A.sorts.Fault) × (js : List ℕ) × (x ≡ Broken g js)
  broken_of (undefined {x = g} {ks = js}) = (g, js, refl)

module _ {E : Type 0} {A B : Lang E} {K : Kit A B} {P : Program A.sorts} {Q : Program B.sorts} (L : Linking K P Q) (W : ℕ) (linked : Linked L W) where
  below_texts : {b : Bool} {μ : K.World} {i : ℕ} {us : List (Frame A.sorts)} {fs : List (Frame B.sorts)} → Below L b μ i us fs → without L.outer (numbers fs) ≡ map L.image (numbers us)
  unfolding numbers
  below_texts (bottom houses) = refl
  below_texts (caller {j = j} {us = us} {fs = fs} known home grows waits resumes below) =
      ap (λ b. unless_so b (L.image j) (without L.outer (numbers fs))) (linked.image_inner j) ∙ ap (λ ks. L.image j ∷ ks) (below_texts below)
  below_texts (wrapped {i = i} {g = g} {n = n} {fs = fs} named grows hands_on below) =
      ap (λ b. unless_so b g (without L.outer (numbers fs))) (linked.wrapper_outer i n g named) ∙ below_texts below

  -- The active texts of the two sides are the same.
  pub same_texts : {x : State E A.sorts} {y : State E B.sorts} → Alike L x y → SameTexts L x y
  unfolding numbers
  same_texts (running {i = i} {fs = fs} known home matched below) =
      ap (λ b. unless_so b (L.image i) (without L.outer (numbers fs))) (linked.image_inner i) ∙ ap (λ ks. L.image i ∷ ks) (below_texts below)
  same_texts (over {i = i} {fs = fs} known home halted below) =
      ap (λ b. unless_so b (L.image i) (without L.outer (numbers fs))) (linked.image_inner i) ∙ ap (λ ks. L.image i ∷ ks) (below_texts below)
  same_texts (finished houses given) = refl
  same_texts undefined = tt

  -- A run of the source that has ended: the target has ended the same way.
  pub ends_alike : {x : State E A.sorts} {y : State E B.sorts} → Alike L x y → EndsAlike L W x y
  ends_alike {x = x} {y = y} alike n m e us s ended late =
      let r = law L W linked alike n in
      let o = over_of L (subst (λ z. Alike L z (run B Q r.0 y)) ended r.3) in
      let high : r.0 ≤ W * n = r.2 in
      let size : r.0 + (m - r.0) ≡ m = omega arith in
      (o.0, o.1, ap (λ k. run B Q k y) (sym size) ∙ sym (run-run B Q (m - r.0) r.0 y) ∙ ap (run B Q (m - r.0)) o.2 ∙ run-over B Q (m - r.0) e o.0 o.1, o.3)

  -- A fault of the target comes no earlier than the source breaks.
  pub breaks_later : {x : State E A.sorts} {y : State E B.sorts} → Alike L x y → BreaksLater A B P Q x y
  breaks_later {x = x} {y = y} alike m f ks broken =
      let r = law L W linked alike m in
      let low : m ≤ r.0 = r.1 in
      let size : m + (r.0 - m) ≡ r.0 = omega arith in
      let stays : run B Q r.0 y ≡ Broken f ks = ap (λ k. run B Q k y) (sym size) ∙ sym (run-run B Q (r.0 - m) m y) ∙ ap (run B Q (r.0 - m)) broken ∙ run-broken B Q (r.0 - m) f ks in
      broken_of L (subst (λ z. Alike L (run A P m x) z) stays r.3)

  -- A run that begins with one call, of a name without a wrapper, begins alike.
  pub begins_alike : (μ : K.World) (n : A.sorts.Name) (a : A.sorts.Arg) (s : A.sorts.Shared) (n' : B.sorts.Name) (a' : B.sorts.Arg) (t : B.sorts.Shared) (i : ℕ) →
      P.find n ≡ Some i → L.wrapper i n' ≡ None → Home L μ [] → K.Passed μ s n a t n' a' → Alike L (begun A P n a s) (begun B Q n' a' t)
  unfolding begun calling run active
  begins_alike μ n a s n' a' t i found bare home passed =
      let known = linked.known n i found in
      let r = opened_alike L W linked n' a' t (A.start (P.text i) n a s) false refl
      (λ idle. (linked.simulated i known).starts μ s n a t n' a' (home.houses i known) (home.idle i known idle) passed)
      (linked.finds μ s n a t n' a' i passed found) known home (bottom home.houses) (λ k owned absent. refl) in
      let none : r.0 ≤ 0 = subst (λ o. r.0 ≤ wrapping o) bare r.1 in
      let zero_steps : r.0 ≡ 0 = omega arith in
      subst (λ o. Alike L (calling A P o n a s []) (begun B Q n' a' t)) (sym found)
      (subst (λ k. Alike L (opening A (A.start (P.text i) n a s) i []) (run B Q k (begun B Q n' a' t))) zero_steps r.2)

  -- what a call breaks by is not claimed
  opening_unclaimed : (j : ℕ) (us : List (Frame A.sorts)) (f : A.sorts.Fault) (x : Entry A.sorts) (b : Bool) → active j us ≡ b → ((g : A.sorts.Fault) → x ≡ Refused g → ¬ K.Claimed g) →
      BreaksBy (opening A x j us) f → K.Claimed f → ⊥
  unfolding opening unless_active
  opening_unclaimed j us f (Enters v s) true e refuses broken =
      let busy : A.busy ≡ f = subst (λ c. BreaksBy {E = E} {L = A.sorts} (unless_active c A.busy v s j us) f) e broken in
      subst (λ g. K.Claimed g → ⊥) busy linked.busy_unclaimed
  opening_unclaimed j us f (Enters v s) false e refuses broken = absurd (subst (λ c. BreaksBy {E = E} {L = A.sorts} (unless_active c A.busy v s j us) f) e broken)
  opening_unclaimed j us f (Refused g) b e refuses broken = subst (λ g. K.Claimed g → ⊥) broken (refuses g refl)

  calling_unclaimed : (us : List (Frame A.sorts)) (n : A.sorts.Name) (a : A.sorts.Arg) (s : A.sorts.Shared) (f : A.sorts.Fault)
      (o : Option ℕ) → P.find n ≡ o → BreaksBy (calling A P o n a s us) f → K.Claimed f → ⊥
  unfolding calling
  calling_unclaimed us n a s f None found broken = subst (λ g. K.Claimed g → ⊥) broken linked.missing_unclaimed
  calling_unclaimed us n a s f (Some j) found broken =
      opening_unclaimed j us f (A.start (P.text j) n a s) (active j us) refl
      (λ g. (linked.simulated j (linked.known n j found)).refuses n a s g) broken

  resumed_unclaimed : (μ : K.World) (j : ℕ) (us : List (Frame A.sorts)) (w : B.sorts.View) (r' : B.sorts.Ans) (t : B.sorts.Shared) (from : List ℕ) (f : A.sorts.Fault)
      (x : Entry A.sorts) → Resumed (couple L j) μ x w r' t → BreaksBy {E = E} (entering x from j us) f → K.Claimed f → ⊥
  unfolding entering
  resumed_unclaimed μ j us w r' t from f (Enters v s) met broken = absurd broken
  resumed_unclaimed μ j us w r' t from f (Refused g) met broken = subst (λ g. K.Claimed g → ⊥) broken met

  -- what an answer breaks by is not claimed
  directly_unclaimed : {μ : K.World} {i : ℕ} {us : List (Frame A.sorts)} {fs : List (Frame B.sorts)} (s : A.sorts.Shared) (r : A.sorts.Ans) (t : B.sorts.Shared) (r' : B.sorts.Ans) (f : A.sorts.Fault) →
      Below L false μ i us fs → K.Given μ s r t r' → BreaksBy (answering A P i us s r) f → K.Claimed f → ⊥
  unfolding answering
  directly_unclaimed s r t r' f (bottom houses) given broken = absurd broken
  directly_unclaimed s r t r' f (caller {μ₀ = μ₀} {j = j} {v = v} {w = w} {us = us} known home grows waits resumes below) given broken =
      resumed_unclaimed μ₀ j us w r' t _ f (A.resume (P.text j) v r s) (resumes s r t r' given) broken

  answering_unclaimed : (b : Bool) {μ : K.World} {i : ℕ} {us : List (Frame A.sorts)} {fs : List (Frame B.sorts)} (s : A.sorts.Shared) (r : A.sorts.Ans) (t : B.sorts.Shared) (r' : B.sorts.Ans) (f : A.sorts.Fault) →
      Below L b μ i us fs → K.Given μ s r t r' → BreaksBy (answering A P i us s r) f → K.Claimed f → ⊥
  answering_unclaimed false s r t r' f below given broken claimed = directly_unclaimed s r t r' f below given broken claimed
  answering_unclaimed true s r t r' f (wrapped named grows hands_on below) given broken claimed =
      directly_unclaimed s r (hands_on s r t r' given).answered (hands_on s r t r' given).ans f below (hands_on s r t r' given).given broken claimed

  -- the target tells what the source claims
  event_told : {b : Bool} {μ : K.World} {i : ℕ} (v₀ : A.sorts.View) (w : B.sorts.View) (t : B.sorts.Shared) {us : List (Frame A.sorts)} {fs : List (Frame B.sorts)} (f : A.sorts.Fault)
      (e : Event E A.sorts) → Meets (couple L i) μ w t (L.width i) e → L.Known i → Home L μ (Has i v₀ ∷ us) → Below L b μ i us fs →
      BreaksBy (act A P e i us) f → K.Claimed f → (k : ℕ) × (suc k ≤ W) × Tells K Q f (run B Q k (Runs (L.image i) w fs t))
  unfolding act
  event_told v₀ w t f (Goes v s) met known home below broken claimed = absurd broken
  event_told v₀ w t f (Ends e v s) met known home below broken claimed = absurd broken
  event_told {i = i} v₀ w t {us = us} f (Calls v s n a) met known home below broken claimed =
      absurd (calling_unclaimed (Has i v ∷ us) n a s f (P.find n) refl broken claimed)
  event_told {b = b} v₀ w t f (Answers s r) met known home below broken claimed =
      absurd (answering_unclaimed b s r met.shared met.ans f below met.given broken claimed)
  event_told {i = i} v₀ w t {fs = fs} f (Breaks g) met known home below broken claimed =
      let same : f ≡ g = sym broken in
      let m = met (subst K.Claimed same claimed) in
      let p = path_reaches B Q (L.image i) fs m.does in
      let few : m.count ≤ L.width i = m.few in
      let narrow : L.width i ≤ W = linked.narrow i known in
      let size : m.count ≡ suc p.0 = p.3 in
      (p.0, omega arith, subst (Tells K Q f) (sym p.4) (tells (subst (λ g. K.Told g (B.step (Q.text (L.image i)) p.1 p.2)) broken (subst (K.Told g) (sym p.5) m.told))))

  state_told : {i : ℕ} {v : A.sorts.View} {us : List (Frame A.sorts)} {s : A.sorts.Shared} (y : State E B.sorts) (f : A.sorts.Fault) (ks : List ℕ) →
      Alike L (Runs i v us s) y → next A P (Runs i v us s) ≡ Broken f ks → K.Claimed f → (k : ℕ) × (suc k ≤ W) × Tells K Q f (run B Q k y)
  unfolding next
  state_told {v = v} {s = s} y f ks (running {μ = μ} {i = i} {w = w} {t = t} known home matched below) broken claimed =
      event_told v w t f (A.step (P.text i) v s) ((linked.simulated i known).follows μ v s w t matched) known home below (subst (λ z. BreaksBy z f) (sym broken) refl) claimed

  -- A claimed break of the source is told by the target.
  pub reports : {x : State E A.sorts} {y : State E B.sorts} → Alike L x y → Reports K P Q W x y
  unfolding run
  reports {x = x} {y = y} alike n i v us s f ks runs breaks claimed =
      let r = law L W linked alike n in
      let low : n ≤ r.0 = r.1 in
      let high : r.0 ≤ W * n = r.2 in
      let size : W * suc n ≡ W * n + W = omega arith in
      let c = state_told (run B Q r.0 y) f ks (subst (λ z. Alike L z (run B Q r.0 y)) runs r.3) (sym (ap (next A P) runs) ∙ breaks) claimed in
      let few : suc c.0 ≤ W = c.1 in
      (r.0 + c.0, omega arith, omega arith, subst (Tells K Q f) (run-run B Q c.0 r.0 y) c.2)
