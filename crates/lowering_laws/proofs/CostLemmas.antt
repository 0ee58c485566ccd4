-- Ways and what they cost.
use Rattle.std.specs.Prelude.{◌≡◌, ℕ, zero, suc, ◌+◌, ◌-◌, ◌<◌, ◌≤◌, List, [], ◌∷◌, Some, slice_get}
use Rattle.std.proofs.Common.{refl, sym, ap, ◌∙◌, subst, arith}
use Rattle.fortran_laws.specs.simulation.Machine.{Event, Goes}
use Rattle.fortran_laws.specs.simulation.LocalSimulation.{Does, last, more}
use Rattle.fortran_laws.specs.f_tree.World.{World, Ending}
use Rattle.fortran_laws.specs.f_tree.Facts.{Frame}
use Rattle.lowering.specs.l_core.Pures.{Temporaries, if_kept, meant}
use Rattle.lowering.specs.l_core.Steps.{Step, Skip, Again, Pass, Branch, Way, Text}
use Rattle.lowering.specs.l_core.Machine.{lowered, lowered_sorts, step, done, past, selecting, jump, to_place, onward, to}
use Rattle.lowering.specs.l_core.Costs.{cost, rest}
use Rattle.lowering_laws.specs.Walks.{at_step, IsNoBranch, IsOrdinary, Keeps, stays, goes}
use Rattle.lowering_laws.specs.Layer.{Leads, there, by_pass, by_skip, Picks, Arrives, plainly, by_branch, by_way}
use Rattle.lowering_laws.proofs.WalkLemmas.{ordinary_by}

-- a step and those behind it
pub rest_step : (cs : List ℕ) (p : ℕ) → rest cs p ≡ cost cs p + rest cs (suc p)
unfolding rest cost
rest_step [] p = refl
rest_step (c ∷ []) zero = refl
rest_step (c ∷ (d ∷ cs)) zero = refl
rest_step (c ∷ cs) (suc p) = rest_step cs p

falls_by : (cs : List ℕ) (p k : ℕ) → rest cs (p + k) ≤ rest cs p
falls_by cs p zero = let same : p + 0 ≡ p = omega arith in subst (λ z. rest cs z ≤ rest cs p) (sym same) (omega arith)
falls_by cs p (suc k) =
    let before = falls_by cs p k in
    let one = rest_step cs (p + k) in
    let same : p + suc k ≡ suc (p + k) = omega arith in
    subst (λ z. rest cs z ≤ rest cs p) (sym same) (omega (arith, before, one))

pub rest_falls : (cs : List ℕ) (p q : ℕ) → p ≤ q → rest cs q ≤ rest cs p
rest_falls cs p q le = let same : p + (q - p) ≡ q = omega (arith, le) in subst (λ z. rest cs z ≤ rest cs p) same (falls_by cs p (q - p))

-- the costs without that of one step
without : ℕ → List ℕ → List ℕ
without b [] = []
without zero (c ∷ cs) = 0 ∷ cs
without (suc b) (c ∷ cs) = c ∷ without b cs

without_one : (b : ℕ) (cs : List ℕ) → cost cs b + rest (without b cs) 0 ≡ rest cs 0
unfolding cost rest without
without_one b [] = omega arith
without_one zero (c ∷ cs) = let e : c + (0 + rest cs 0) ≡ c + rest cs 0 = omega arith in e
without_one (suc b) (c ∷ cs) = let one = without_one b cs in let e : cost cs b + (c + rest (without b cs) 0) ≡ c + rest cs 0 = omega (arith, one) in e

cost_without : (b p : ℕ) (cs : List ℕ) → (b ≡ p → ⊥) → cost (without b cs) p ≡ cost cs p
unfolding cost without
cost_without b p [] apart = refl
cost_without zero zero (c ∷ cs) apart = absurd (apart refl)
cost_without zero (suc p) (c ∷ cs) apart = refl
cost_without (suc b) zero (c ∷ cs) apart = refl
cost_without (suc b) (suc p) (c ∷ cs) apart = cost_without b p cs (λ e. apart (ap suc e))

-- a step costs no more than the rest of the text
cost_of_rest : (cs : List ℕ) (p : ℕ) → cost cs p ≤ rest cs p
cost_of_rest cs p = let one = rest_step cs p in omega (arith, one)

module _ (u : Text) (f : Frame) (h : ℕ) (w : World) (cs : List ℕ) where
  -- costs that are the same but for the branches behind a CALL and their ways
  abbrev Agrees : List ℕ → Type 0
  Agrees ds = (p : ℕ) → IsOrdinary u p → cost ds p ≡ cost cs p

  -- the costs without that of a step that is none of the ordinary ones
  agrees_without : (b : ℕ) (st : Step) (ds : List ℕ) → slice_get u.steps b ≡ Some st → (IsNoBranch st → ⊥) → Agrees ds → Agrees (without b ds)
  agrees_without b st ds there' branch agrees p ordinary =
      cost_without b p ds (λ same. branch (ordinary st (subst (λ z. slice_get u.steps z ≡ Some st) same there'))) ∙ agrees p ordinary

  -- a way, a step behind it, and what both cost, by all costs that are the same
  record Track (p : ℕ) (m : Temporaries) (q : ℕ) (e : Event Ending lowered_sorts) : Type 0 where
    count : ℕ
    does : Does lowered (λ x. cost cs x.at) u (at_step f h p m) w count e
    few : (ds : List ℕ) → Agrees ds → count + rest ds (suc q) ≤ rest ds p

  -- a way, and what is behind it
  record Walked (p : ℕ) (m : Temporaries) (q n : ℕ) (e : Event Ending lowered_sorts) : Type 0 where
    count : ℕ
    does : Does lowered (λ x. cost cs x.at) u (at_step f h p m) w count e
    few : (ds : List ℕ) → Agrees ds → count + rest ds q ≤ rest ds p + n

  track_to : {p q : ℕ} {m m' : Temporaries} (e : Event Ending lowered_sorts) → Keeps u f h w p m q m' → IsOrdinary u q → step u (at_step f h q m') w ≡ e → Track p m q e
  track_to {p = p} e stays ordinary st =
      record { count = cost cs p; does = last st refl; few = λ ds agrees. let one = rest_step ds p in let same = agrees p ordinary in omega (arith, one, same) }
  track_to {p = p} {q = q} e (goes {p' = p'} ordinary first forward way) ordinary' st =
      let later = track_to e way ordinary' st in
      record {
        count = cost cs p + later.count;
        does = more first later.does refl;
        few = λ ds agrees.
            let one = rest_step ds p in
            let falls = rest_falls ds (suc p) p' forward in
            let few = later.few ds agrees in
            let same = agrees p ordinary in
            omega (arith, one, falls, few, same);
      }

  -- a way, and what is behind it, with what both cost
  walk : {p q : ℕ} {m m' : Temporaries} (n : ℕ) (e : Event Ending lowered_sorts) → Keeps u f h w p m q m' → Does lowered (λ x. cost cs x.at) u (at_step f h q m') w n e → Walked p m q n e
  walk n e stays does = record { count = n; does = does; few = λ ds agrees. omega arith }
  walk {p = p} {q = q} n e (goes {p' = p'} ordinary first forward way) does =
      let later = walk n e way does in
      record {
        count = cost cs p + later.count;
        does = more first later.does refl;
        few = λ ds agrees.
            let one = rest_step ds p in
            let falls = rest_falls ds (suc p) p' forward in
            let few = later.few ds agrees in
            let same = agrees p ordinary in
            omega (arith, one, falls, few, same);
      }

  -- from where the text stands it may first take a branch behind a CALL, and the way that it picks
  pub data Begins : ℕ → Temporaries → ℕ → Type 0 where
    at_it : {p : ℕ} {m : Temporaries} → Begins p m p
    branched : {p r k n : ℕ} {m : Temporaries} → slice_get u.steps p ≡ Some (Branch k n) → step u (at_step f h p m) w ≡ Goes (at_step f h r m) w → Begins p m r
    by_both : {p q r k n l : ℕ} {m : Temporaries} → slice_get u.steps p ≡ Some (Branch k n) → step u (at_step f h p m) w ≡ Goes (at_step f h q m) w →
        slice_get u.steps q ≡ Some (Way l) → step u (at_step f h q m) w ≡ Goes (at_step f h r m) w → Begins p m r

  -- what that costs is left out of what the others cost
  record Begun (p : ℕ) (m : Temporaries) (r : ℕ) : Type 0 where
    before : ℕ
    others : List ℕ
    agrees : Agrees others
    whole : before + rest others 0 ≡ rest cs 0
    does : (n : ℕ) (e : Event Ending lowered_sorts) → Does lowered (λ x. cost cs x.at) u (at_step f h r m) w n e → Does lowered (λ x. cost cs x.at) u (at_step f h p m) w (before + n) e

  branch_apart : (p q k n l : ℕ) → slice_get u.steps p ≡ Some (Branch k n) → slice_get u.steps q ≡ Some (Way l) → p ≡ q → ⊥
  branch_apart p q k n l there' there'' same = absurd (let both : slice_get u.steps p ≡ Some (Way l) = ap (slice_get u.steps) same ∙ there'' in cc)

  begun : {p r : ℕ} {m : Temporaries} → Begins p m r → Begun p m r
  begun {p = p} {m = m} at_it = record {
    before = 0;
    others = cs;
    agrees = λ n ordinary. refl;
    whole = omega arith;
    does = λ n e does. let none : n ≡ 0 + n = omega arith in subst (λ z. Does lowered (λ x. cost cs x.at) u (at_step f h p m) w z e) none does;
  }
  begun {p = p} (branched {k = k} {n = n} there' first) =
      record { before = cost cs p; others = without p cs; agrees = agrees_without p (Branch k n) cs there' (λ none. none) (λ q ordinary. refl); whole = without_one p cs; does = λ n' e does. more first does refl }
  begun {p = p} (by_both {q = q} {k = k} {n = n} {l = l} there' first there'' second) =
      let one = without_one p cs in
      let two = without_one q (without p cs) in
      let same = cost_without p q cs (branch_apart p q k n l there' there'') in
      record {
        before = cost cs p + cost cs q;
        others = without q (without p cs);
        agrees = agrees_without q (Way l) (without p cs) there'' (λ none. none) (agrees_without p (Branch k n) cs there' (λ none. none) (λ q' ordinary. refl));
        whole = omega (arith, one, two, same);
        does = λ n' e does. more first (more second does refl) (omega arith);
      }

  -- a way, a step behind it, and that they leave over what any step further on costs
  pub record WayThere (p : ℕ) (m : Temporaries) (q : ℕ) (e : Event Ending lowered_sorts) : Type 0 where
    pub count : ℕ
    pub does : Does lowered (λ x. cost cs x.at) u (at_step f h p m) w count e
    pub few : count ≤ rest cs 0
    pub spare : (n : ℕ) → q < n → IsOrdinary u n → count + cost cs n ≤ rest cs 0

  pub way_to : {p r q : ℕ} {m m' : Temporaries} (e : Event Ending lowered_sorts) → Begins p m r → Keeps u f h w r m q m' → IsOrdinary u q → step u (at_step f h q m') w ≡ e → WayThere p m q e
  way_to {r = r} {q = q} e begins way ordinary st =
      let b = begun begins in
      let whole = b.whole in
      let all = track_to e way ordinary st in
      let few = all.few b.others b.agrees in
      let falls = rest_falls b.others 0 r (omega arith) in
      record {
        count = b.before + all.count;
        does = b.does all.count e all.does;
        few = omega (arith, few, falls, whole);
        spare = λ n behind ordinary'.
            let down = rest_falls b.others (suc q) n behind in
            let one = cost_of_rest b.others n in
            let same = b.agrees n ordinary' in
            omega (arith, few, falls, whole, down, one, same);
      }

  -- a way, one step back, a way that ends before the first one began, and a step behind it: no step is taken twice
  pub record WayBack (p : ℕ) (m : Temporaries) (q e : ℕ) (ev : Event Ending lowered_sorts) : Type 0 where
    pub count : ℕ
    pub does : Does lowered (λ x. cost cs x.at) u (at_step f h p m) w count ev
    pub few : count ≤ rest cs 0
    pub spare : (n : ℕ) → q < n → n < e → IsOrdinary u n → count + cost cs n ≤ rest cs 0

  back_step : (p n q : ℕ) (m : Temporaries) → slice_get u.steps p ≡ Some (Again n) → p - n ≡ q → step u (at_step f h p m) w ≡ Goes (at_step f h q m) w
  unfolding step done to
  back_step p n q m there' is = ap (done u (at_step f h p m) w) there' ∙ ap (λ z. Goes (at_step f h z m) w) is

  pub way_back_to : {p r s n q' q e : ℕ} {m m' : Temporaries} (ev : Event Ending lowered_sorts) → Begins p m r → Keeps u f h w r m s m → slice_get u.steps s ≡ Some (Again n) → s - n ≡ q' →
      Keeps u f h w q' m q m' → IsOrdinary u q → step u (at_step f h q m') w ≡ ev → e ≤ r → q < e → WayBack p m q e ev
  way_back_to {r = r} {s = s} {n = n} {q' = q'} {q = q} {e = e} {m = m} ev begins way there' is way' ordinary st below inside =
      let b = begun begins in
      let whole = b.whole in
      let later = track_to ev way' ordinary st in
      let all = walk (cost cs s + later.count) ev way (more (back_step s n q' m there' is) later.does refl) in
      let few = all.few b.others b.agrees in
      let few' = later.few b.others b.agrees in
      let one = rest_step b.others s in
      let same = b.agrees s (ordinary_by u s (Again n) there' tt) in
      let falls = rest_falls b.others 0 q' (omega arith) in
      record {
        count = b.before + all.count;
        does = b.does all.count ev all.does;
        few = (let down = rest_falls b.others (suc q) r (omega (arith, below, inside)) in omega (arith, few, one, few', down, falls, whole, same));
        spare = λ n' behind under ordinary'.
            let down = rest_falls b.others (suc n') r (omega (arith, below, under)) in
            let one' = rest_step b.others n' in
            let down' = rest_falls b.others (suc q) n' behind in
            let same' = b.agrees n' ordinary' in
            omega (arith, few, one, few', down, falls, one', down', whole, same, same');
      }

  -- a way, and more steps of which none is taken twice
  pub record WayOn (p : ℕ) (m : Temporaries) (ev : Event Ending lowered_sorts) : Type 0 where
    pub count : ℕ
    pub does : Does lowered (λ x. cost cs x.at) u (at_step f h p m) w count ev
    pub few : count ≤ rest cs 0

  pub way_on : {p r q : ℕ} {m m' : Temporaries} (n : ℕ) (ev : Event Ending lowered_sorts) → Begins p m r → Keeps u f h w r m q m' → Does lowered (λ x. cost cs x.at) u (at_step f h q m') w n ev → n ≡ cost cs q + cost cs (suc q) →
      IsOrdinary u q → IsOrdinary u (suc q) → WayOn p m ev
  way_on {r = r} {q = q} n ev begins way does is ordinary ordinary' =
      let b = begun begins in
      let whole = b.whole in
      let all = walk n ev way does in
      let few = all.few b.others b.agrees in
      let one = rest_step b.others q in
      let two = rest_step b.others (suc q) in
      let falls = rest_falls b.others 0 r (omega arith) in
      let same = b.agrees q ordinary in
      let same' = b.agrees (suc q) ordinary' in
      record { count = b.before + all.count; does = b.does all.count ev all.does; few = omega (arith, few, one, two, falls, is, whole, same, same') }

  pub way_one : {p r q : ℕ} {m m' : Temporaries} (n : ℕ) (ev : Event Ending lowered_sorts) → Begins p m r → Keeps u f h w r m q m' → Does lowered (λ x. cost cs x.at) u (at_step f h q m') w n ev → n ≡ cost cs q → IsOrdinary u q → WayOn p m ev
  way_one {r = r} {q = q} n ev begins way does is ordinary =
      let b = begun begins in
      let whole = b.whole in
      let all = walk n ev way does in
      let few = all.few b.others b.agrees in
      let one = rest_step b.others q in
      let falls = rest_falls b.others 0 r (omega arith) in
      let same = b.agrees q ordinary in
      record { count = b.before + all.count; does = b.does all.count ev all.does; few = omega (arith, few, one, falls, is, whole, same) }

  -- two steps behind a way, and one before all of it
  pub way_turn : {p r q t : ℕ} {m : Temporaries} (n : ℕ) (ev : Event Ending lowered_sorts) → Begins p m r → Keeps u f h w r m q m → Does lowered (λ x. cost cs x.at) u (at_step f h q m) w n ev → n ≡ cost cs q + (cost cs (suc q) + cost cs t) → t < r →
      IsOrdinary u q → IsOrdinary u (suc q) → IsOrdinary u t → WayOn p m ev
  way_turn {r = r} {q = q} {t = t} n ev begins way does is below ordinary ordinary' ordinary'' =
      let b = begun begins in
      let whole = b.whole in
      let all = walk n ev way does in
      let few = all.few b.others b.agrees in
      let one = rest_step b.others q in
      let two = rest_step b.others (suc q) in
      let three = rest_step b.others t in
      let down = rest_falls b.others (suc t) r below in
      let falls = rest_falls b.others 0 t (omega arith) in
      let same = b.agrees q ordinary in
      let same' = b.agrees (suc q) ordinary' in
      let same'' = b.agrees t ordinary'' in
      record { count = b.before + all.count; does = b.does all.count ev all.does; few = omega (arith, few, one, two, three, down, falls, is, whole, same, same', same'') }

  pass_step : (p : ℕ) (m : Temporaries) → slice_get u.steps p ≡ Some Pass → step u (at_step f h p m) w ≡ Goes (at_step f h (suc p) m) w
  unfolding step done onward to
  pass_step p m e = ap (done u (at_step f h p m) w) e

  skip_step : (p n : ℕ) (m : Temporaries) → slice_get u.steps p ≡ Some (Skip n) → step u (at_step f h p m) w ≡ Goes (at_step f h (suc p + n) m) w
  unfolding step done past to
  skip_step p n m e = ap (done u (at_step f h p m) w) e

  pub leads_keep : {p q : ℕ} (m : Temporaries) → Leads u p q → Keeps u f h w p m q m
  leads_keep m there = stays
  leads_keep {p = p} m (by_pass e leads) = goes (ordinary_by u p Pass e tt) (pass_step p m e) (omega arith) (leads_keep m leads)
  leads_keep {p = p} m (by_skip {n = n} e leads) = goes (ordinary_by u p (Skip n) e tt) (skip_step p n m e) (omega arith) (leads_keep m leads)

  picks_step : {p q : ℕ} {m : Temporaries} (picks : Picks u m p q) → step u (at_step f h p m) w ≡ Goes (at_step f h q m) w
  unfolding step done selecting past to meant if_kept
  picks_step {p = p} {m = m} picks =
      ap (done u (at_step f h p m) w) picks.there ∙ ap (λ x. selecting picks.count (at_step f h p m) w (if_kept x)) picks.holds ∙ ap (λ z. Goes (at_step f h z m) w) picks.past

  way_step : (p r l : ℕ) (m : Temporaries) → slice_get u.steps p ≡ Some (Way l) → u.position l ≡ Some r → step u (at_step f h p m) w ≡ Goes (at_step f h r m) w
  unfolding step done jump to_place to
  way_step p r l m there' is = ap (done u (at_step f h p m) w) there' ∙ ap (λ x. to_place x (at_step f h p m) w) is

  pub begins_by : {low p q : ℕ} {m : Temporaries} → Arrives u m low p q → (r : ℕ) × Begins p m r × Leads u r q × (low ≤ r)
  begins_by {p = p} (plainly up leads) = (p, at_it, leads, up)
  begins_by (by_branch {r = r} picks up leads) = (r, branched picks.there (picks_step picks), leads, up)
  begins_by {m = m} (by_way {r = r} {s = s} l picks there' is up leads) = (r, by_both picks.there (picks_step picks) there' (way_step s r l m there' is), leads, up)

pub leads_on : {u : Text} {p q r : ℕ} → Leads u p q → Leads u q r → Leads u p r
leads_on there after = after
leads_on (by_pass e leads) after = by_pass e (leads_on leads after)
leads_on (by_skip e leads) after = by_skip e (leads_on leads after)

pub leads_up : {u : Text} {p q : ℕ} → Leads u p q → p ≤ q
leads_up there = omega arith
leads_up (by_pass e leads) = let more = leads_up leads in omega (arith, more)
leads_up (by_skip e leads) = let more = leads_up leads in omega (arith, more)

pub arrives_on : {u : Text} {m : Temporaries} {low p q r : ℕ} → Arrives u m low p q → Leads u q r → Arrives u m low p r
arrives_on (plainly up leads) after = plainly up (leads_on leads after)
arrives_on (by_branch picks up leads) after = by_branch picks up (leads_on leads after)
arrives_on (by_way l picks there' is up leads) after = by_way l picks there' is up (leads_on leads after)

pub arrives_low : {u : Text} {m : Temporaries} {low low' p q : ℕ} → low' ≤ low → Arrives u m low p q → Arrives u m low' p q
arrives_low le (plainly up leads) = plainly (omega (arith, le, up)) leads
arrives_low le (by_branch picks up leads) = by_branch picks (omega (arith, le, up)) leads
arrives_low le (by_way l picks there' is up leads) = by_way l picks there' is (omega (arith, le, up)) leads

pub arrives_up : {u : Text} {m : Temporaries} {low p q : ℕ} → Arrives u m low p q → low ≤ q
arrives_up (plainly up leads) = let more = leads_up leads in omega (arith, up, more)
arrives_up (by_branch picks up leads) = let more = leads_up leads in omega (arith, up, more)
arrives_up (by_way l picks there' is up leads) = let more = leads_up leads in omega (arith, up, more)
