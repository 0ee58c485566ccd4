-- Where no equations contradict each other, all names that stand behind a name are reached from it: each round reaches a further name, or
-- there is none, and each further name takes an equation.
use Rattle.std.proofs.Common.{◌≡◌, ℕ, zero, suc, ◌+◌, ◌≤◌, ◌<◌, ℤ, pos, ◌+ℤ◌, neg_ℤ, Bool, true, false, ◌&&◌, ◌||◌, List, [], ◌∷◌, ◌++◌, bytes_eq, if◌then◌else◌, true≢false, arith, refl, sym, ap, subst, ◌∙◌, inl, inr}
use Rattle.std.specs.List.{list_any}
use Rattle.std.proofs.lemmas.Int.{ints}
use Rattle.offset_classes.specs.f_tree.Values.{Bytes}
use Rattle.offset_classes.specs.f_tree.Setting.{IsIn, first_in, later_in}
use Rattle.declaration_rows.specs.PlacingRows.{Equation, Reached, is_reached, all_reached_by, with_new, further, further_times, count, reached_from}
use Rattle.offset_classes.specs.Standing.{Stands, AreConsistent}
use Rattle.offset_classes.proofs.StandsLaws.{stands_self, stands_along, stands_back, by_ways}
use Rattle.placing_laws.specs.NamedLinks.{links_by}
use Rattle.placing_laws.proofs.Reaching.{in_front_of, in_back_of, in_either_of, bytes_same, bytes_self, both_true, true_both, or_left, or_right, in_same, same_reached, is_reached_in, in_is_reached, IsStep, ahead, behind, IsStepOf, all_from, from_all_in, in_times, equation_in, stands_step, started, only}

-- a list that each equation leaves as it is
pub record IsClosed (es : List Equation) (rs : List Reached) : Type 0 where
  pub closed : (e : Equation) (r c : Reached) → IsIn e es → IsIn r rs → IsStep e r c → IsIn c rs

data IsSameOr (Same : Type 0) (before after : List Reached) : Type 0 where
  same : Same → after ≡ before → IsSameOr Same before after
  more : count before < count after → IsSameOr Same before after

count_put : (rs : List Reached) (c : Reached) → count (rs ++ c ∷ []) ≡ suc (count rs)
unfolding count
count_put [] c = refl
count_put (r ∷ rs) c = ap suc (count_put rs c)

no_fewer_put : (rs : List Reached) (c : Reached) (test : Bool) → count rs ≤ count (if test then rs else rs ++ c ∷ [])
no_fewer_put rs c true = omega arith
no_fewer_put rs c false = let e = count_put rs c in omega arith

no_fewer_with : (rs cs : List Reached) → count rs ≤ count (with_new rs cs)
unfolding with_new
no_fewer_with rs [] = omega arith
no_fewer_with rs (c ∷ cs) =
    let one = no_fewer_put rs c (is_reached c.name c.by rs) in
    let rest = no_fewer_with (if is_reached c.name c.by rs then rs else rs ++ c ∷ []) cs in
    omega arith

no_fewer : (es : List Equation) (rs : List Reached) → count rs ≤ count (further es rs)
unfolding further
no_fewer [] rs = omega arith
no_fewer (e ∷ es) rs =
    let one = no_fewer_with rs (all_reached_by e rs) in
    let rest = no_fewer es (with_new rs (all_reached_by e rs)) in
    omega arith

AllIn : List Reached → List Reached → Type 0
AllIn cs rs = (c : Reached) → IsIn c cs → IsIn c rs

first_or : (c : Reached) (cs rs : List Reached) → IsIn c rs → AllIn cs rs → (d : Reached) → IsIn d (c ∷ cs) → IsIn d rs
unfolding AllIn
first_or c cs rs one rest _ first_in = one
first_or c cs rs one rest d (later_in h) = rest d h

with_by : (rs : List Reached) (c : Reached) (cs : List Reached) (test : Bool) → is_reached c.name c.by rs ≡ test
    → IsSameOr (AllIn cs rs) rs (with_new rs cs) → IsSameOr (AllIn (c ∷ cs) rs) rs (with_new (if test then rs else rs ++ c ∷ []) cs)
unfolding AllIn
with_by rs c cs true is (same all eq) = same (first_or c cs rs (is_reached_in c.name c.by rs is) all) eq
with_by rs c cs true is (more h) = more h
with_by rs c cs false is found =
    more (let e = count_put rs c in let k = no_fewer_with (rs ++ c ∷ []) cs in omega arith)

with_or : (rs cs : List Reached) → IsSameOr (AllIn cs rs) rs (with_new rs cs)
unfolding with_new AllIn
with_or rs [] = same (λ c h. elim h [ ]) refl
with_or rs (c ∷ cs) = with_by rs c cs (is_reached c.name c.by rs) refl (with_or rs cs)

closed_more : (e : Equation) (es : List Equation) (rs : List Reached) → AllIn (all_reached_by e rs) rs → IsClosed es rs → IsClosed (e ∷ es) rs
unfolding AllIn
closed_more e es rs all rest = record { closed = λ f r c f_in r_in step. by f r c f_in r_in step }
  where
    by : (f : Equation) (r c : Reached) → IsIn f (e ∷ es) → IsIn r rs → IsStep f r c → IsIn c rs
    by _ r c first_in r_in step = all c (from_all_in e rs r c r_in step)
    by f r c (later_in h) r_in step = rest.closed f r c h r_in step

further_by : (e : Equation) (es : List Equation) (rs now : List Reached) → IsSameOr (AllIn (all_reached_by e rs) rs) rs now
    → ((now ≡ rs) → IsSameOr (IsClosed es rs) rs (further es now)) → IsSameOr (IsClosed (e ∷ es) rs) rs (further es now)
further_by e es rs now (more h) rest = more (let k = no_fewer es now in omega arith)
further_by e es rs now (same all eq) rest =
    elim (rest eq) as (λ x. IsSameOr (IsClosed (e ∷ es) rs) rs (further es now)) [
      | same closed eq' ↦ same (closed_more e es rs all closed) eq'
      | more h ↦ more h
    ]

further_or : (es : List Equation) (rs : List Reached) → IsSameOr (IsClosed es rs) rs (further es rs)
unfolding further
further_or [] rs = same (record { closed = λ e r c h. elim h [ ] }) refl
further_or (e ∷ es) rs =
    further_by e es rs (with_new rs (all_reached_by e rs)) (with_or rs (all_reached_by e rs))
    (λ eq. subst (λ now. IsSameOr (IsClosed es rs) rs (further es now)) (sym eq) (further_or es rs))

times_fixed : (n : ℕ) (es : List Equation) (rs : List Reached) → further es rs ≡ rs → further_times n es rs ≡ rs
unfolding further_times
times_fixed zero es rs h = refl
times_fixed (suc n) es rs h = ap (further_times n es) h ∙ times_fixed n es rs h

data IsDone (es : List Equation) (rs : List Reached) (n before : ℕ) : Type 0 where
  done : IsClosed es rs → IsDone es rs n before
  grown : before + n ≤ count rs → IsDone es rs n before

times_by : (n : ℕ) (es : List Equation) (rs : List Reached) → IsSameOr (IsClosed es rs) rs (further es rs)
    → IsDone es (further_times n es (further es rs)) n (count (further es rs)) → IsDone es (further_times n es (further es rs)) (suc n) (count rs)
times_by n es rs (same closed eq) found =
    done (subst (IsClosed es) (sym (ap (further_times n es) eq ∙ times_fixed n es rs eq)) closed)
times_by n es rs (more h) (done closed) = done closed
times_by n es rs (more h) (grown k) = grown (omega arith)

times_or : (n : ℕ) (es : List Equation) (rs : List Reached) → IsDone es (further_times n es rs) n (count rs)
unfolding further_times
times_or zero es rs = grown (omega arith)
times_or (suc n) es rs = times_by n es rs (further_or es rs) (times_or n es (further es rs))

-- NAMES AMONG WHAT IS REACHED, and the equations between two of them
pub is_named : Bytes → List Reached → Bool
is_named x rs = list_any (λ (r : Reached). bytes_eq r.name x) rs

pub record IsNamed (x : Bytes) (rs : List Reached) : Type 0 where
  pub by : ℤ
  pub is_in : IsIn (record { name = x; by = by }) rs

named_by : (x : Bytes) (r : Reached) (rs : List Reached) (test : Bool) → bytes_eq r.name x ≡ test → (test || is_named x rs) ≡ true
    → (is_named x rs ≡ true → IsNamed x rs) → IsNamed x (r ∷ rs)
named_by x r rs true is h later =
    record { by = r.by; is_in = in_same r (record { name = x; by = r.by }) (r ∷ rs) first_in (same_reached r x r.by (bytes_same r.name x is) refl) }
named_by x r rs false is h later = let k = later h in record { by = k.by; is_in = later_in k.is_in }

pub named_in : (x : Bytes) (rs : List Reached) → is_named x rs ≡ true → IsNamed x rs
unfolding is_named
named_in x [] h = absurd (true≢false (sym h))
named_in x (r ∷ rs) h = named_by x r rs (bytes_eq r.name x) refl h (named_in x rs)

pub in_named : (r : Reached) (rs : List Reached) → IsIn r rs → is_named r.name rs ≡ true
unfolding is_named
in_named r [] h = elim h [ ]
in_named r (_ ∷ rs) first_in = or_left _ _ (bytes_self r.name)
in_named r (q ∷ rs) (later_in h) = or_right (bytes_eq q.name r.name) _ (in_named r rs h)

more_named : (x : Bytes) (rs : List Reached) (c : Reached) → is_named x rs ≡ true → is_named x (rs ++ c ∷ []) ≡ true
more_named x rs c h = let k = named_in x rs h in in_named (record { name = x; by = k.by }) (rs ++ c ∷ []) (in_front_of _ rs (c ∷ []) k.is_in)

is_between : List Reached → Equation → Bool
is_between rs e = is_named e.one rs && is_named e.other rs

once : Bool → ℕ
once t = if t then 1 else 0

between : List Reached → List Equation → ℕ
between rs [] = 0
between rs (e ∷ es) = once (is_between rs e) + between rs es

more_between : (rs : List Reached) (c : Reached) (e : Equation) → is_between rs e ≡ true → is_between (rs ++ c ∷ []) e ≡ true
unfolding is_between
more_between rs c e h = let both = both_true (is_named e.one rs) (is_named e.other rs) h in true_both _ _ (more_named e.one rs c both.0) (more_named e.other rs c both.1)

as_one : (t : Bool) → t ≡ true → once t ≡ 1
unfolding once
as_one true is = refl
as_one false is = absurd (true≢false (sym is))

as_none : (t : Bool) → t ≡ false → once t ≡ 0
unfolding once
as_none false is = refl
as_none true is = absurd (true≢false is)

one_no_less : (a b : Bool) → (a ≡ true → b ≡ true) → once a ≤ once b
unfolding once
one_no_less true b h = subst (λ t. 1 ≤ once t) (sym (h refl)) (omega arith)
one_no_less false b h = omega arith

no_fewer_between : (rs : List Reached) (c : Reached) (es : List Equation) → between rs es ≤ between (rs ++ c ∷ []) es
unfolding between
no_fewer_between rs c [] = omega arith
no_fewer_between rs c (e ∷ es) =
    let rest = no_fewer_between rs c es in
    let one = one_no_less (is_between rs e) (is_between (rs ++ c ∷ []) e) (more_between rs c e) in
    omega arith

further_between : (rs : List Reached) (c : Reached) (es : List Equation) (e : Equation) → IsIn e es → is_between rs e ≡ false → is_between (rs ++ c ∷ []) e ≡ true
    → between rs es < between (rs ++ c ∷ []) es
unfolding between
further_between rs c [] e h was now = elim h [ ]
further_between rs c (_ ∷ es) e first_in was now =
    let rest = no_fewer_between rs c es in
    let none : once (is_between rs e) ≡ 0 = as_none (is_between rs e) was in
    let one : once (is_between (rs ++ c ∷ []) e) ≡ 1 = as_one (is_between (rs ++ c ∷ []) e) now in
    omega arith
further_between rs c (f ∷ es) e (later_in h) was now =
    let rest = further_between rs c es e h was now in
    let one = one_no_less (is_between rs f) (is_between (rs ++ c ∷ []) f) (more_between rs c f) in
    omega arith

at_most_one : (a : Bool) → once a ≤ 1
unfolding once
at_most_one true = omega arith
at_most_one false = omega arith

between_most : (rs : List Reached) (es : List Equation) → between rs es ≤ count es
unfolding between count
between_most rs [] = omega arith
between_most rs (e ∷ es) = let rest = between_most rs es in let one = at_most_one (is_between rs e) in omega arith

all_between : (rs : List Reached) (es : List Equation) → count es ≤ between rs es → (e : Equation) → IsIn e es → is_between rs e ≡ true
unfolding between count
all_between rs [] h e e_in = elim e_in [ ]
all_between rs (_ ∷ es) h e first_in = one_of (is_between rs e) refl
  where
    one_of : (test : Bool) → is_between rs e ≡ test → test ≡ true
    one_of true is = refl
    one_of false is =
        let none : once (is_between rs e) ≡ 0 = as_none (is_between rs e) is in
        let rest = between_most rs es in
        let k : suc (count es) ≤ once (is_between rs e) + between rs es = h in
        absurd (omega arith)
all_between rs (f ∷ es) h e (later_in e_in) =
    let one = at_most_one (is_between rs f) in
    let k : suc (count es) ≤ once (is_between rs f) + between rs es = h in
    all_between rs es (omega arith) e e_in

-- WHERE NO EQUATIONS CONTRADICT each other
pub one_distance : (es : List Equation) → AreConsistent (links_by es) → (x y : Bytes) (d c : ℤ) → Stands (links_by es) x y d → Stands (links_by es) x y c → d ≡ c
one_distance es consistent x y d c h k =
    let round : d +ℤ neg_ℤ c ≡ pos 0 =
    consistent.nowhere_else x (d +ℤ neg_ℤ c) (stands_along (links_by es) x y x d (neg_ℤ c) (d +ℤ neg_ℤ c) h (stands_back (links_by es) x y c (neg_ℤ c) k refl) refl) in
    omega (arith, ints)

-- each name but the first has its equation
record AreFew (es : List Equation) (x : Bytes) (rs : List Reached) : Type 0 where
  stand : (r : Reached) → IsIn r rs → Stands (links_by es) x r.name r.by
  few : count rs ≤ suc (between rs es)

no_right : (a b : Bool) → b ≡ false → (a && b) ≡ false
no_right true b h = h
no_right false b h = refl

no_left : (a b : Bool) → a ≡ false → (a && b) ≡ false
no_left a b h = ap (λ t. t && b) h

was : (e : Equation) (r c : Reached) (rs : List Reached) → IsStep e r c → is_named c.name rs ≡ false → is_between rs e ≡ false
unfolding is_between
was e r c rs (ahead one other by) none = no_right (is_named e.one rs) _ (ap (λ y. is_named y rs) (sym other) ∙ none)
was e r c rs (behind other one by) none = no_left _ (is_named e.other rs) (ap (λ y. is_named y rs) (sym one) ∙ none)

now : (e : Equation) (r c : Reached) (rs : List Reached) → IsStep e r c → is_named r.name rs ≡ true → is_named c.name rs ≡ true → is_between rs e ≡ true
unfolding is_between
now e r c rs (ahead one other by) r_is c_is = true_both _ _ (ap (λ y. is_named y rs) one ∙ r_is) (ap (λ y. is_named y rs) (sym other) ∙ c_is)
now e r c rs (behind other one by) r_is c_is = true_both _ _ (ap (λ y. is_named y rs) (sym one) ∙ c_is) (ap (λ y. is_named y rs) other ∙ r_is)

module _ (es : List Equation) (x : Bytes) (consistent : AreConsistent (links_by es)) where
  new_name : (rs : List Reached) (c : Reached) → ((r : Reached) → IsIn r rs → Stands (links_by es) x r.name r.by) → Stands (links_by es) x c.name c.by
      → is_reached c.name c.by rs ≡ false → (test : Bool) → is_named c.name rs ≡ test → test ≡ false
  new_name rs c stand c_stands is_new false is = refl
  new_name rs c stand c_stands is_new true is =
      let k = named_in c.name rs is in
      let e = one_distance es consistent x c.name k.by c.by (stand (record { name = c.name; by = k.by }) k.is_in) c_stands in
      absurd (true≢false (sym (in_is_reached c rs (in_same (record { name = c.name; by = k.by }) c rs k.is_in (ap (λ d. record { name = c.name; by = d }) e))) ∙ is_new))

  few_put : (rs : List Reached) (e : Equation) (r c : Reached) → IsIn e es → IsIn r rs → IsStep e r c → AreFew es x rs → is_reached c.name c.by rs ≡ false
      → AreFew es x (rs ++ c ∷ [])
  few_put rs e r c e_in r_in step few is_new =
      let c_stands = stands_step es x e r c e_in step (few.stand r r_in) in
      let name_new : is_named c.name rs ≡ false = new_name rs c few.stand c_stands is_new (is_named c.name rs) refl in
      let r_named = more_named r.name rs c (in_named r rs r_in) in
      let c_named = in_named c (rs ++ c ∷ []) (in_back_of c rs (c ∷ []) first_in) in
      record {
        stand = λ q h. elim (in_either_of q rs (c ∷ []) h) [
          | inl g ↦ few.stand q g
          | inr g ↦ subst (λ p. Stands (links_by es) x p.name p.by) (only q c g) c_stands
        ];
        few =
            let old_few : count rs ≤ suc (between rs es) = few.few in
            let e_count = count_put rs c in
            let strict : between rs es < between (rs ++ c ∷ []) es = further_between rs c es e e_in (was e r c rs step name_new) (now e r c (rs ++ c ∷ []) step r_named c_named) in
            omega arith;
      }

  few_put_by : (rs : List Reached) (e : Equation) (r c : Reached) → IsIn e es → IsIn r rs → IsStep e r c → AreFew es x rs → (test : Bool) → is_reached c.name c.by rs ≡ test
      → AreFew es x (if test then rs else rs ++ c ∷ [])
  few_put_by rs e r c e_in r_in step few true is = few
  few_put_by rs e r c e_in r_in step few false is = few_put rs e r c e_in r_in step few is

  kept_put : (rs : List Reached) (c r : Reached) (test : Bool) → IsIn r rs → IsIn r (if test then rs else rs ++ c ∷ [])
  kept_put rs c r true h = h
  kept_put rs c r false h = in_front_of r rs (c ∷ []) h

  few_with : (e : Equation) → IsIn e es → (cs rs : List Reached) → ((c : Reached) → IsIn c cs → IsStepOf e rs c) → AreFew es x rs → AreFew es x (with_new rs cs)
  unfolding with_new
  few_with e e_in [] rs steps few = few
  few_with e e_in (c ∷ cs) rs steps few =
      let here_step = steps c first_in in
      let test = is_reached c.name c.by rs in
      few_with e e_in cs (if test then rs else rs ++ c ∷ [])
      (λ d h. let s = steps d (later_in h) in record { from = s.from; is_in = kept_put rs c s.from test s.is_in; step = s.step })
      (few_put_by rs e here_step.from c e_in here_step.is_in here_step.step few test refl)

  few_further : (fs : List Equation) → ((e : Equation) → IsIn e fs → IsIn e es) → (rs : List Reached) → AreFew es x rs → AreFew es x (further fs rs)
  unfolding further
  few_further [] sub rs few = few
  few_further (f ∷ fs) sub rs few =
      few_further fs (λ e h. sub e (later_in h)) (with_new rs (all_reached_by f rs)) (few_with f (sub f first_in) (all_reached_by f rs) rs (all_from f rs) few)

  few_times : (n : ℕ) (rs : List Reached) → AreFew es x rs → AreFew es x (further_times n es rs)
  unfolding further_times
  few_times zero rs few = few
  few_times (suc n) rs few = few_times n (further es rs) (few_further es (λ e h. h) rs few)

  few_start : AreFew es x (record { name = x; by = pos 0 } ∷ [])
  unfolding count
  few_start = record { stand = started (λ q. Stands (links_by es) x q.name q.by) x (pos 0) (stands_self (links_by es) x); few = omega arith }

  -- all equations are between names that are reached already
  closed_if_all : (rs : List Reached) → AreFew es x rs → ((e : Equation) → IsIn e es → is_between rs e ≡ true) → IsClosed es rs
  unfolding is_between
  closed_if_all rs few all = record { closed = λ e r c e_in r_in step. there e r c e_in r_in step }
    where
      found : (c : Reached) → Stands (links_by es) x c.name c.by → is_named c.name rs ≡ true → IsIn c rs
      found c stands is =
          let k = named_in c.name rs is in
          let e = one_distance es consistent x c.name k.by c.by (few.stand (record { name = c.name; by = k.by }) k.is_in) stands in
          in_same (record { name = c.name; by = k.by }) c rs k.is_in (ap (λ d. record { name = c.name; by = d }) e)

      named : (e : Equation) (r c : Reached) → IsIn e es → IsStep e r c → is_named c.name rs ≡ true
      named e r c e_in (ahead one other by) = ap (λ y. is_named y rs) other ∙ (both_true (is_named e.one rs) (is_named e.other rs) (all e e_in)).1
      named e r c e_in (behind other one by) = ap (λ y. is_named y rs) one ∙ (both_true (is_named e.one rs) (is_named e.other rs) (all e e_in)).0

      there : (e : Equation) (r c : Reached) → IsIn e es → IsIn r rs → IsStep e r c → IsIn c rs
      there e r c e_in r_in step = found c (stands_step es x e r c e_in step (few.stand r r_in)) (named e r c e_in step)

  closed_by : (rs : List Reached) → AreFew es x rs → IsDone es rs (count es) 1 → IsClosed es rs
  closed_by rs few (done closed) = closed
  closed_by rs few (grown h) =
      closed_if_all rs few (all_between rs es (let k : count rs ≤ suc (between rs es) = few.few in omega arith))

  pub reached_closed : IsClosed es (reached_from es x)
  unfolding reached_from count
  reached_closed =
      closed_by (further_times (count es) es (record { name = x; by = pos 0 } ∷ [])) (few_times (count es) (record { name = x; by = pos 0 } ∷ []) few_start)
      (times_or (count es) es (record { name = x; by = pos 0 } ∷ []))

-- what is closed has all that stands behind
pub closed_stands : (es : List Equation) (x : Bytes) (rs : List Reached) → IsClosed es rs → IsIn (record { name = x; by = pos 0 }) rs
    → (y : Bytes) (d : ℤ) → Stands (links_by es) x y d → IsIn (record { name = y; by = d }) rs
closed_stands es x rs closed start y d h =
    in_same (record { name = y; by = pos 0 +ℤ d }) (record { name = y; by = d }) rs
    (by_ways (links_by es) (λ x y d. (c : ℤ) → IsIn (record { name = x; by = c }) rs → IsIn (record { name = y; by = c +ℤ d }) rs)
    (λ x c h. in_same (record { name = x; by = c }) (record { name = x; by = c +ℤ pos 0 }) rs h (ap (λ e. record { name = x; by = e }) (omega (arith, ints))))
    (λ x y z b d l l_in way one other by c h.
    closed.closed (record { one = l.one; other = l.other; by = l.by }) (record { name = y; by = c +ℤ b }) (record { name = z; by = c +ℤ d }) (equation_in l es l_in) (way c h)
    (ahead one (sym other) (let e : d ≡ b +ℤ l.by = by in omega (arith, ints))))
    (λ x y z b d l l_in way other one by c h.
    closed.closed (record { one = l.one; other = l.other; by = l.by }) (record { name = y; by = c +ℤ b }) (record { name = z; by = c +ℤ d }) (equation_in l es l_in) (way c h)
    (behind other (sym one) (let e : d ≡ b +ℤ neg_ℤ l.by = by in omega (arith, ints))))
    x y d h (pos 0) start) (ap (λ e. record { name = y; by = e }) (omega (arith, ints)))

-- all that stands behind a name is reached from it
pub stands_reached : (es : List Equation) → AreConsistent (links_by es) → (x y : Bytes) (d : ℤ) → Stands (links_by es) x y d → IsIn (record { name = y; by = d }) (reached_from es x)
unfolding reached_from
stands_reached es consistent x y d h =
    closed_stands es x (reached_from es x) (reached_closed es x consistent)
    (in_times (count es) es (record { name = x; by = pos 0 } ∷ []) (record { name = x; by = pos 0 }) first_in) y d h
