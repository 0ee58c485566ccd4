-- When equations contradict each other: where a name is reached elsewhere than where it begins.
use Rattle.std.proofs.Common.{◌≡◌, ℕ, zero, suc, ◌+◌, ℤ, pos, ◌+ℤ◌, neg_ℤ, Bool, true, false, not, ◌&&◌, ◌||◌, List, [], ◌∷◌, ◌++◌, bytes_eq, true≢false, append_assoc, append-nil, arith, refl, sym, ap, subst, ◌∙◌, ◌⊎◌, inl, inr}
use Rattle.std.specs.List.{list_any}
use Rattle.std.specs.Ordering.{int_eq}
use Rattle.std.proofs.lemmas.Int.{ints}
use Rattle.offset_classes.specs.f_tree.Values.{Bytes}
use Rattle.offset_classes.specs.f_tree.Setting.{IsIn, first_in, later_in}
use Rattle.declaration_rows.specs.PlacingRows.{Equation, Reached, all_reached_by, with_new, further, further_times, count, reached_from, is_contradicted, contradicts}
use Rattle.offset_classes.specs.Standing.{Stands, AreConsistent, AreContradictory}
use Rattle.offset_classes.proofs.StandsLaws.{by_ways}
use Rattle.placing_laws.specs.NamedLinks.{links_by}
use Rattle.placing_laws.proofs.Reaching.{in_back_of, in_either_of, bytes_same, bytes_self, ints_same, int_self, both_true, true_both, or_left, or_right, in_same, IsStep, ahead, behind, all_from, from_all_in, in_with_old, in_with_new, with_either, in_further, equation_in, in_times, reached_stands, only}
use Rattle.placing_laws.proofs.Completed.{IsClosed, is_named, IsNamed, named_in, in_named, reached_closed}

-- TESTS OF LISTS
pub record IsAny {A : Type 0} (test : A → Bool) (xs : List A) : Type 0 where
  pub one : A
  pub is_in : IsIn one xs
  pub holds : test one ≡ true

any_by : {A : Type 0} (test : A → Bool) (x : A) (xs : List A) (here' : Bool) → test x ≡ here' → (here' || list_any test xs) ≡ true
    → (list_any test xs ≡ true → IsAny test xs) → IsAny test (x ∷ xs)
any_by test x xs true is h later = record { one = x; is_in = first_in; holds = is }
any_by test x xs false is h later = let k = later h in record { one = k.one; is_in = later_in k.is_in; holds = k.holds }

pub any_in : {A : Type 0} (test : A → Bool) (xs : List A) → list_any test xs ≡ true → IsAny test xs
any_in test [] h = absurd (true≢false (sym h))
any_in test (x ∷ xs) h = any_by test x xs (test x) refl h (any_in test xs)

pub in_any : {A : Type 0} (test : A → Bool) (xs : List A) (x : A) → IsIn x xs → test x ≡ true → list_any test xs ≡ true
in_any test [] x h is = elim h [ ]
in_any test (_ ∷ xs) x first_in is = or_left (test x) (list_any test xs) is
in_any test (y ∷ xs) x (later_in h) is = or_right (test y) (list_any test xs) (in_any test xs x h is)

not_true : (a : Bool) → not a ≡ true → a ≡ false
not_true true h = absurd (true≢false (sym h))
not_true false h = refl

false_not : (a : Bool) → a ≡ false → not a ≡ true
false_not a h = ap not h

pub same_tests : (a b : Bool) → (a ≡ true → b ≡ true) → (b ≡ true → a ≡ true) → a ≡ b
same_tests true b one other = sym (one refl)
same_tests false true one other = absurd (true≢false (sym (other refl)))
same_tests false false one other = refl

-- A CONTRADICTION IS ONE
contradicted_stands : (es : List Equation) (x : Bytes) → is_contradicted es x ≡ true → AreContradictory (links_by es)
unfolding is_contradicted
contradicted_stands es x h =
    let found = any_in (λ (r : Reached). bytes_eq r.name x && not (int_eq r.by (pos 0))) (reached_from es x) h in
    let both = both_true (bytes_eq found.one.name x) (not (int_eq found.one.by (pos 0))) found.holds in
    record {
      at = x;
      by = found.one.by;
      is = subst (λ y. Stands (links_by es) x y found.one.by) (bytes_same found.one.name x both.0) (reached_stands es x found.one found.is_in);
      elsewhere = λ e. true≢false (sym (ap (λ d. int_eq d (pos 0)) e ∙ int_self (pos 0)) ∙ not_true (int_eq found.one.by (pos 0)) both.1);
    }

pub contradiction_stands : (es : List Equation) → contradicts es ≡ true → AreContradictory (links_by es)
unfolding contradicts
contradiction_stands es h = let found = any_in (λ (e : Equation). is_contradicted es e.one) es h in contradicted_stands es found.one.one found.holds

-- WHAT A FRONT OF THE EQUATIONS REACHES is reached by all, from wherever one starts
pub Holds : ℤ → List Reached → List Reached → Type 0
Holds s rs all = (r : Reached) → IsIn r rs → IsIn (record { name = r.name; by = r.by +ℤ s }) all

moved_step : (s : ℤ) (e : Equation) (r c : Reached) → IsStep e r c → IsStep e (record { name = r.name; by = r.by +ℤ s }) (record { name = c.name; by = c.by +ℤ s })
moved_step s e r c (ahead one other by) = ahead one other (let k : c.by ≡ r.by +ℤ e.by = by in omega (arith, ints))
moved_step s e r c (behind other one by) = behind other one (let k : c.by ≡ r.by +ℤ neg_ℤ e.by = by in omega (arith, ints))

holds_further : (s : ℤ) (es : List Equation) (rs all : List Reached) → Holds s rs all → Holds s (further es rs) (further es all)
unfolding further Holds
holds_further s [] rs all h = h
holds_further s (e ∷ es) rs all h =
    holds_further s es (with_new rs (all_reached_by e rs)) (with_new all (all_reached_by e all))
    (λ r r_in. elim (with_either rs (all_reached_by e rs) r r_in) [
      | inl old_in ↦ in_with_old all (all_reached_by e all) (record { name = r.name; by = r.by +ℤ s }) (h r old_in)
      | inr new_in ↦ let from = all_from e rs r new_in in
          in_with_new all (all_reached_by e all) (record { name = r.name; by = r.by +ℤ s })
          (from_all_in e all (record { name = from.from.name; by = from.from.by +ℤ s }) (record { name = r.name; by = r.by +ℤ s }) (h from.from from.is_in)
          (moved_step s e from.from r from.step))
    ])

further_both : (before after : List Equation) (rs : List Reached) → further (before ++ after) rs ≡ further after (further before rs)
unfolding further
further_both [] after rs = refl
further_both (e ∷ before) after rs = further_both before after (with_new rs (all_reached_by e rs))

holds_times : (s : ℤ) (before after : List Equation) (n : ℕ) (rs all : List Reached) → Holds s rs all
    → Holds s (further_times n before rs) (further_times n (before ++ after) all)
unfolding further_times Holds
holds_times s before after zero rs all h = h
holds_times s before after (suc n) rs all h =
    holds_times s before after n (further before rs) (further (before ++ after) all)
    (λ r r_in. subst (λ xs. IsIn (record { name = r.name; by = r.by +ℤ s }) xs) (sym (further_both before after all))
    (in_further after (further before all) (record { name = r.name; by = r.by +ℤ s }) (holds_further s before rs all h r r_in)))

held_times : (s : ℤ) (before after : List Equation) (n : ℕ) (rs all : List Reached) → Holds s rs all
    → (r : Reached) → IsIn r (further_times n before rs) → IsIn (record { name = r.name; by = r.by +ℤ s }) (further_times n (before ++ after) all)
unfolding Holds
held_times s before after n rs all h = holds_times s before after n rs all h

-- more rounds reach no less
holds_none : (rs all : List Reached) → ((r : Reached) → IsIn r rs → IsIn r all) → Holds (pos 0) rs all
unfolding Holds
holds_none rs all h = λ r r_in. in_same r (record { name = r.name; by = r.by +ℤ pos 0 }) all (h r r_in) (ap (λ d. record { name = r.name; by = d }) (omega (arith, ints)))

one_holds : (x : Bytes) (s : ℤ) (all : List Reached) → IsIn (record { name = x; by = s }) all → Holds s (record { name = x; by = pos 0 } ∷ []) all
unfolding Holds
one_holds x s all h = λ r r_in. in_same (record { name = x; by = s }) (record { name = r.name; by = r.by +ℤ s }) all h
    (ap (λ d. record { name = x; by = d }) (omega (arith, ints)) ∙ ap (λ (q : Reached). record { name = q.name; by = q.by +ℤ s }) (only r (record { name = x; by = pos 0 }) r_in))

one_more : (n : ℕ) (es : List Equation) (rs all : List Reached) → ((r : Reached) → IsIn r rs → IsIn r all)
    → (r : Reached) → IsIn r (further_times n es rs) → IsIn r (further_times n es all)
one_more n es rs all h r r_in =
    let moved = held_times (pos 0) es [] n rs all (holds_none rs all h) r r_in in
    in_same (record { name = r.name; by = r.by +ℤ pos 0 }) r (further_times n es all)
    (subst (λ fs. IsIn (record { name = r.name; by = r.by +ℤ pos 0 }) (further_times n fs all)) (append-nil es) moved)
    (ap (λ d. record { name = r.name; by = d }) (omega (arith, ints)))

more_rounds : (k n : ℕ) (es : List Equation) (rs : List Reached) (r : Reached) → IsIn r (further_times n es rs) → IsIn r (further_times (k + n) es rs)
unfolding further_times
more_rounds zero n es rs r h = subst (λ m. IsIn r (further_times m es rs)) (let e : n ≡ zero + n = omega arith in e) h
more_rounds (suc k) n es rs r h =
    subst (λ m. IsIn r (further_times m es rs)) (let e : suc (k + n) ≡ suc k + n = omega arith in e)
    (one_more (k + n) es rs (further es rs) (in_further es rs) r (more_rounds k n es rs r h))

first_step : (before after : List Equation) (e : Equation) (rs : List Reached) → IsIn (record { name = e.one; by = pos 0 }) rs
    → IsIn (record { name = e.other; by = e.by }) (further (e ∷ after) (further before rs))
unfolding further
first_step before after e rs h =
    let here' = in_further before rs (record { name = e.one; by = pos 0 }) h in
    in_further after (with_new (further before rs) (all_reached_by e (further before rs))) (record { name = e.other; by = e.by })
    (in_with_new (further before rs) (all_reached_by e (further before rs)) (record { name = e.other; by = e.by })
    (from_all_in e (further before rs) (record { name = e.one; by = pos 0 }) (record { name = e.other; by = e.by }) here' (ahead refl refl (omega (arith, ints)))))

count_both : (before after : List Equation) (e : Equation) → count after + suc (count before) ≡ count (before ++ e ∷ after)
unfolding count
count_both [] after e = omega arith
count_both (f ∷ before) after e = let k = count_both before after e in omega arith

round_more : (n : ℕ) (es : List Equation) (rs : List Reached) (r : Reached) → IsIn r (further_times n es (further es rs)) → IsIn r (further_times (suc n) es rs)
unfolding further_times
round_more n es rs r h = h

-- a way that goes along one more equation, and then back by the equations before it
round : (before after : List Equation) (e : Equation) (c : ℤ) → IsIn (record { name = e.one; by = c }) (reached_from before e.other)
    → IsIn (record { name = e.one; by = c +ℤ e.by }) (reached_from (before ++ e ∷ after) e.one)
unfolding reached_from
round before after e c h =
    let es = before ++ e ∷ after in
    let from = record { name = e.one; by = pos 0 } ∷ [] in
    let there : IsIn (record { name = e.other; by = e.by }) (further es from) =
    subst (λ xs. IsIn (record { name = e.other; by = e.by }) xs) (sym (further_both before (e ∷ after) from)) (first_step before after e from first_in) in
    let back = held_times e.by before (e ∷ after) (count before) (record { name = e.other; by = pos 0 } ∷ []) (further es from)
    (one_holds e.other e.by (further es from) there) (record { name = e.one; by = c }) h in
    subst (λ m. IsIn (record { name = e.one; by = c +ℤ e.by }) (further_times m es from)) (count_both before after e)
    (more_rounds (count after) (suc (count before)) es from (record { name = e.one; by = c +ℤ e.by }) (round_more (count before) es from _ back))

-- A POTENTIAL: where names could begin so that all equations hold
pub record IsPotential (es : List Equation) (at : Bytes → ℤ) : Type 0 where
  pub each : (e : Equation) → IsIn e es → at e.other ≡ at e.one +ℤ e.by

pub record Potential (es : List Equation) : Type 0 where
  pub at : Bytes → ℤ
  pub is : IsPotential es at

pub potential_stands : (es : List Equation) (at : Bytes → ℤ) → IsPotential es at → (x y : Bytes) (d : ℤ) → Stands (links_by es) x y d → at y ≡ at x +ℤ d
potential_stands es at is x y d h =
    by_ways (links_by es) (λ x y d. at y ≡ at x +ℤ d) (λ x. omega (arith, ints))
    (λ x y z b d l l_in way one other by.
    let k = is.each (record { one = l.one; other = l.other; by = l.by }) (equation_in l es l_in) in
    let first : at l.one ≡ at y = ap at one in
    let second : at l.other ≡ at z = ap at other in
    let e : at l.other ≡ at l.one +ℤ l.by = k in
    let g : at y ≡ at x +ℤ b = way in
    let m : d ≡ b +ℤ l.by = by in
    omega (arith, ints))
    (λ x y z b d l l_in way other one by.
    let k = is.each (record { one = l.one; other = l.other; by = l.by }) (equation_in l es l_in) in
    let first : at l.one ≡ at z = ap at one in
    let second : at l.other ≡ at y = ap at other in
    let e : at l.other ≡ at l.one +ℤ l.by = k in
    let g : at y ≡ at x +ℤ b = way in
    let m : d ≡ b +ℤ neg_ℤ l.by = by in
    omega (arith, ints))
    x y d h

pub potential_consistent : (es : List Equation) → Potential es → AreConsistent (links_by es)
potential_consistent es p = record {
  nowhere_else = λ x d h. let k : p.at x ≡ p.at x +ℤ d = potential_stands es p.at p.is x x d h in omega (arith, ints);
}

-- one more equation: between names that share storage already, or between names that do not
start_named : (es : List Equation) (x : Bytes) → is_named x (reached_from es x) ≡ true
unfolding reached_from
start_named es x = in_named (record { name = x; by = pos 0 }) (further_times (count es) es (record { name = x; by = pos 0 } ∷ []))
    (in_times (count es) es (record { name = x; by = pos 0 } ∷ []) (record { name = x; by = pos 0 }) first_in)

only_of : (f e : Equation) → IsIn f (e ∷ []) → e ≡ f
only_of f _ first_in = refl
only_of f e (later_in h) = elim h [ ]

not_contradicted : (es : List Equation) (e : Equation) (d : ℤ) → IsIn e es → contradicts es ≡ false → IsIn (record { name = e.one; by = d }) (reached_from es e.one) → d ≡ pos 0
unfolding contradicts is_contradicted
not_contradicted es e d e_in none h = by_test (int_eq d (pos 0)) refl
  where
    by_test : (test : Bool) → int_eq d (pos 0) ≡ test → d ≡ pos 0
    by_test true is = ints_same d (pos 0) is
    by_test false is =
        let wrong = in_any (λ (r : Reached). bytes_eq r.name e.one && not (int_eq r.by (pos 0))) (reached_from es e.one) (record { name = e.one; by = d }) h
        (true_both (bytes_eq e.one e.one) (not (int_eq d (pos 0))) (bytes_self e.one) (false_not (int_eq d (pos 0)) is)) in
        absurd (true≢false (sym (in_any (λ (f : Equation). list_any (λ (r : Reached). bytes_eq r.name f.one && not (int_eq r.by (pos 0))) (reached_from es f.one)) es e e_in wrong) ∙ none))

in_one_more : (e f : Equation) (before : List Equation) → IsIn f (before ++ e ∷ []) → IsIn f before ⊎ (e ≡ f)
in_one_more e f before h = elim (in_either_of f before (e ∷ []) h) [ inl g ↦ inl g | inr g ↦ inr (only_equation g) ]
  where
    only_equation : IsIn f (e ∷ []) → e ≡ f
    only_equation g = only_of f e g

joined_already : (before after : List Equation) (e : Equation) (p : Potential before) → contradicts (before ++ e ∷ after) ≡ false → IsNamed e.one (reached_from before e.other)
    → Potential (before ++ e ∷ [])
joined_already before after e p none named = record {
  at = p.at;
  is = record {
    each = λ f h. elim (in_one_more e f before h) [
      | inl g ↦ p.is.each f g
      | inr same ↦ subst (λ (q : Equation). p.at q.other ≡ p.at q.one +ℤ q.by) same
          (let back : p.at e.one ≡ p.at e.other +ℤ named.by =
          potential_stands before p.at p.is e.other e.one named.by (reached_stands before e.other (record { name = e.one; by = named.by }) named.is_in) in
          let all : named.by +ℤ e.by ≡ pos 0 =
          not_contradicted (before ++ e ∷ after) e (named.by +ℤ e.by) (in_back_of e before (e ∷ after) first_in) none (round before after e named.by named.is_in) in
          omega (arith, ints))
    ];
  };
}

moved_at : (before : List Equation) (e : Equation) → Potential before → Bytes → Bool → ℤ
moved_at before e p y true = p.at y +ℤ ((p.at e.one +ℤ e.by) +ℤ neg_ℤ (p.at e.other))
moved_at before e p y false = p.at y

same_side : (rs : List Reached) (es : List Equation) → IsClosed es rs → (f : Equation) → IsIn f es → is_named f.one rs ≡ is_named f.other rs
same_side rs es closed f f_in = same_tests (is_named f.one rs) (is_named f.other rs)
    (λ h. let k = named_in f.one rs h in in_named (record { name = f.other; by = k.by +ℤ f.by }) rs
    (closed.closed f (record { name = f.one; by = k.by }) (record { name = f.other; by = k.by +ℤ f.by }) f_in k.is_in (ahead refl refl refl)))
    (λ h. let k = named_in f.other rs h in in_named (record { name = f.one; by = k.by +ℤ neg_ℤ f.by }) rs
    (closed.closed f (record { name = f.other; by = k.by }) (record { name = f.one; by = k.by +ℤ neg_ℤ f.by }) f_in k.is_in (behind refl refl refl)))

moved_alike : (before : List Equation) (e f : Equation) (p : Potential before) (a b : Bool) → a ≡ b → p.at f.other ≡ p.at f.one +ℤ f.by
    → moved_at before e p f.other b ≡ moved_at before e p f.one a +ℤ f.by
unfolding moved_at
moved_alike before e f p true true same h = omega (arith, ints)
moved_alike before e f p false false same h = h
moved_alike before e f p true false same h = absurd (true≢false same)
moved_alike before e f p false true same h = absurd (true≢false (sym same))

moved_here : (before : List Equation) (e : Equation) (p : Potential before) (a b : Bool) → a ≡ false → b ≡ true
    → moved_at before e p e.other b ≡ moved_at before e p e.one a +ℤ e.by
unfolding moved_at
moved_here before e p false true h k = omega (arith, ints)
moved_here before e p true b h k = absurd (true≢false h)
moved_here before e p false false h k = absurd (true≢false (sym k))

joined_newly : (before : List Equation) (e : Equation) (p : Potential before) → is_named e.one (reached_from before e.other) ≡ false → Potential (before ++ e ∷ [])
joined_newly before e p apart =
    let rs = reached_from before e.other in
    let closed = reached_closed before e.other (potential_consistent before p) in
    record {
      at = λ y. moved_at before e p y (is_named y rs);
      is = record {
        each = λ f h. elim (in_one_more e f before h) [
          | inl g ↦ moved_alike before e f p (is_named f.one rs) (is_named f.other rs) (same_side rs before closed f g) (p.is.each f g)
          | inr same ↦ subst (λ (q : Equation). moved_at before e p q.other (is_named q.other rs) ≡ moved_at before e p q.one (is_named q.one rs) +ℤ q.by) same
              (moved_here before e p (is_named e.one rs) (is_named e.other rs) apart (start_named before e.other))
        ];
      };
    }

joined : (before after : List Equation) (e : Equation) (p : Potential before) → contradicts (before ++ e ∷ after) ≡ false
    → (test : Bool) → is_named e.one (reached_from before e.other) ≡ test → Potential (before ++ e ∷ [])
joined before after e p none true is = joined_already before after e p none (named_in e.one (reached_from before e.other) is)
joined before after e p none false is = joined_newly before e p is

all_joined : (before after : List Equation) → Potential before → contradicts (before ++ after) ≡ false → Potential (before ++ after)
all_joined before [] p none = subst Potential (sym (append-nil before)) p
all_joined before (e ∷ after) p none =
    let split : (before ++ e ∷ []) ++ after ≡ before ++ e ∷ after = append_assoc before (e ∷ []) after in
    let next = joined before after e p none (is_named e.one (reached_from before e.other)) refl in
    subst Potential split (all_joined (before ++ e ∷ []) after next (ap contradicts split ∙ none))

-- WHERE THERE IS NO CONTRADICTION, there is none
pub no_contradiction : (es : List Equation) → contradicts es ≡ false → AreConsistent (links_by es)
no_contradiction es none = potential_consistent es (all_joined [] es (record { at = λ x. pos 0; is = record { each = λ e h. elim h [ ] } }) none)

contradicts_by : (es : List Equation) → AreContradictory (links_by es) → (test : Bool) → contradicts es ≡ test → test ≡ true
contradicts_by es wrong true is = refl
contradicts_by es wrong false is = absurd (wrong.elsewhere ((no_contradiction es is).nowhere_else wrong.at wrong.by wrong.is))

pub stands_contradiction : (es : List Equation) → AreContradictory (links_by es) → contradicts es ≡ true
stands_contradiction es wrong = contradicts_by es wrong (contradicts es) refl

consistent_by : (es : List Equation) → AreConsistent (links_by es) → (test : Bool) → contradicts es ≡ test → test ≡ false
consistent_by es right false is = refl
consistent_by es right true is = let wrong = contradiction_stands es is in absurd (wrong.elsewhere (right.nowhere_else wrong.at wrong.by wrong.is))

pub consistent_none : (es : List Equation) → AreConsistent (links_by es) → contradicts es ≡ false
consistent_none es right = consistent_by es right (contradicts es) refl
