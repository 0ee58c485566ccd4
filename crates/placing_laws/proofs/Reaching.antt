-- Which names are reached from a name, round by round.
use Rattle.std.proofs.Common.{◌≡◌, ℕ, zero, suc, ℤ, pos, ◌+ℤ◌, neg_ℤ, Bool, true, false, ◌&&◌, ◌||◌, List, [], ◌∷◌, ◌++◌, bytes_eq, if◌then◌else◌, true≢false, refl, sym, ap, subst, ◌∙◌, ◌⊎◌, inl, inr}
use Rattle.std.specs.Ordering.{int_eq}
use Rattle.std.proofs.lemmas.Slice.Eq.{bytes_eq-Decides}
use Rattle.std.proofs.lemmas.Bool.Decides.{Decides-int_eq}
use Rattle.offset_classes.specs.f_tree.Values.{Bytes}
use Rattle.offset_classes.specs.f_tree.Setting.{IsIn, first_in, later_in}
use Rattle.declaration_rows.specs.PlacingRows.{Equation, Reached, is_reached, reached_by, all_reached_by, with_new, further, further_times, count, reached_from}
use Rattle.offset_classes.specs.Standing.{Link, Stands, onward, backward}
use Rattle.offset_classes.proofs.StandsLaws.{stands_self}
use Rattle.placing_laws.specs.NamedLinks.{link_by, links_by}

-- MEMBERS
pub in_front_of : {A : Type 0} (a : A) (xs ys : List A) → IsIn a xs → IsIn a (xs ++ ys)
in_front_of a [] ys h = elim h [ ]
in_front_of a (_ ∷ xs) ys first_in = first_in
in_front_of a (b ∷ xs) ys (later_in h) = later_in (in_front_of a xs ys h)

pub in_back_of : {A : Type 0} (a : A) (xs ys : List A) → IsIn a ys → IsIn a (xs ++ ys)
in_back_of a [] ys h = h
in_back_of a (b ∷ xs) ys h = later_in (in_back_of a xs ys h)

pub in_either_of : {A : Type 0} (a : A) (xs ys : List A) → IsIn a (xs ++ ys) → IsIn a xs ⊎ IsIn a ys
in_either_of a [] ys h = inr h
in_either_of a (_ ∷ xs) ys first_in = inl first_in
in_either_of a (b ∷ xs) ys (later_in h) = elim (in_either_of a xs ys h) [ inl g ↦ inl (later_in g) | inr g ↦ inr g ]

-- TESTS
pub bytes_same : (x y : Bytes) → bytes_eq x y ≡ true → x ≡ y
bytes_same x y h = (bytes_eq-Decides x y).0 h

pub bytes_self : (x : Bytes) → bytes_eq x x ≡ true
bytes_self x = (bytes_eq-Decides x x).1 refl

pub ints_same : (c d : ℤ) → int_eq c d ≡ true → c ≡ d
ints_same c d h = (Decides-int_eq c d).0 h

pub int_self : (c : ℤ) → int_eq c c ≡ true
int_self c = (Decides-int_eq c c).1 refl

pub both_true : (a b : Bool) → (a && b) ≡ true → (a ≡ true) × (b ≡ true)
both_true true b h = (refl, h)
both_true false b h = absurd (true≢false (sym h))

pub true_both : (a b : Bool) → a ≡ true → b ≡ true → (a && b) ≡ true
true_both a b h k = ap (λ c. c && b) h ∙ k

pub or_left : (a b : Bool) → a ≡ true → (a || b) ≡ true
or_left a b h = ap (λ c. c || b) h

pub or_right : (a b : Bool) → b ≡ true → (a || b) ≡ true
or_right true b h = refl
or_right false b h = h

-- LISTS OF WHAT IS REACHED
pub same_reached : (r : Reached) (x : Bytes) (d : ℤ) → r.name ≡ x → r.by ≡ d → r ≡ record { name = x; by = d }
same_reached r x d h k = ap (λ y. record { name = y; by = r.by }) h ∙ ap (λ e. record { name = x; by = e }) k

pub in_same : {A : Type 0} (a b : A) (xs : List A) → IsIn a xs → a ≡ b → IsIn b xs
in_same a b xs h e = subst (λ c. IsIn c xs) e h

is_reached_by : (x : Bytes) (d : ℤ) (r : Reached) (rs : List Reached) (test : Bool) → (bytes_eq r.name x && int_eq r.by d) ≡ test → (test || is_reached x d rs) ≡ true
    → (is_reached x d rs ≡ true → IsIn (record { name = x; by = d }) rs) → IsIn (record { name = x; by = d }) (r ∷ rs)
is_reached_by x d r rs true is h later =
    let both = both_true (bytes_eq r.name x) (int_eq r.by d) is in
    in_same r (record { name = x; by = d }) (r ∷ rs) first_in (same_reached r x d (bytes_same r.name x both.0) (ints_same r.by d both.1))
is_reached_by x d r rs false is h later = later_in (later h)

pub is_reached_in : (x : Bytes) (d : ℤ) (rs : List Reached) → is_reached x d rs ≡ true → IsIn (record { name = x; by = d }) rs
unfolding is_reached
is_reached_in x d [] h = absurd (true≢false (sym h))
is_reached_in x d (r ∷ rs) h = is_reached_by x d r rs (bytes_eq r.name x && int_eq r.by d) refl h (is_reached_in x d rs)

pub in_is_reached : (r : Reached) (rs : List Reached) → IsIn r rs → is_reached r.name r.by rs ≡ true
unfolding is_reached
in_is_reached r [] h = elim h [ ]
in_is_reached r (_ ∷ rs) first_in = or_left _ _ (true_both _ _ (bytes_self r.name) (int_self r.by))
in_is_reached r (q ∷ rs) (later_in h) = or_right (bytes_eq q.name r.name && int_eq q.by r.by) _ (in_is_reached r rs h)

-- ONE EQUATION from one name
pub data IsStep (e : Equation) (r c : Reached) : Type 0 where
  ahead : e.one ≡ r.name → c.name ≡ e.other → c.by ≡ r.by +ℤ e.by → IsStep e r c
  behind : e.other ≡ r.name → c.name ≡ e.one → c.by ≡ r.by +ℤ neg_ℤ e.by → IsStep e r c

one_if : (test : Bool) (a c : Reached) → IsIn c (if test then a ∷ [] else []) → (test ≡ true) × (a ≡ c)
one_if true a _ first_in = (refl, refl)
one_if true a c (later_in h) = elim h [ ]
one_if false a c h = elim h [ ]

if_one : (test : Bool) (a : Reached) → test ≡ true → IsIn a (if test then a ∷ [] else [])
if_one test a is = subst (λ t. IsIn a (if t then a ∷ [] else [])) (sym is) first_in

pub step_from : (e : Equation) (r c : Reached) → IsIn c (reached_by e r) → IsStep e r c
unfolding reached_by
step_from e r c h =
    elim (in_either_of c (if bytes_eq e.one r.name then record { name = e.other; by = r.by +ℤ e.by } ∷ [] else [])
    (if bytes_eq e.other r.name then record { name = e.one; by = r.by +ℤ neg_ℤ e.by } ∷ [] else []) h) [
      | inl g ↦ let both = one_if (bytes_eq e.one r.name) _ c g in
          ahead (bytes_same e.one r.name both.0) (ap (λ q. q.name) (sym both.1)) (ap (λ q. q.by) (sym both.1))
      | inr g ↦ let both = one_if (bytes_eq e.other r.name) _ c g in
          behind (bytes_same e.other r.name both.0) (ap (λ q. q.name) (sym both.1)) (ap (λ q. q.by) (sym both.1))
    ]

pub from_step : (e : Equation) (r c : Reached) → IsStep e r c → IsIn c (reached_by e r)
unfolding reached_by
from_step e r c (ahead one other by) =
    in_front_of c _ _ (in_same (record { name = e.other; by = r.by +ℤ e.by }) c _
    (if_one (bytes_eq e.one r.name) _ (subst (λ x. bytes_eq e.one x ≡ true) one (bytes_self e.one))) (sym (same_reached c e.other (r.by +ℤ e.by) other by)))
from_step e r c (behind other one by) =
    in_back_of c (if bytes_eq e.one r.name then record { name = e.other; by = r.by +ℤ e.by } ∷ [] else []) _
    (in_same (record { name = e.one; by = r.by +ℤ neg_ℤ e.by }) c _
    (if_one (bytes_eq e.other r.name) _ (subst (λ x. bytes_eq e.other x ≡ true) other (bytes_self e.other)))
    (sym (same_reached c e.one (r.by +ℤ neg_ℤ e.by) one by)))

-- one equation from each of a list
pub record IsStepOf (e : Equation) (rs : List Reached) (c : Reached) : Type 0 where
  pub from : Reached
  pub is_in : IsIn from rs
  pub step : IsStep e from c

pub all_from : (e : Equation) (rs : List Reached) (c : Reached) → IsIn c (all_reached_by e rs) → IsStepOf e rs c
unfolding all_reached_by
all_from e [] c h = elim h [ ]
all_from e (r ∷ rs) c h =
    elim (in_either_of c (reached_by e r) (all_reached_by e rs) h) [
      | inl g ↦ record { from = r; is_in = first_in; step = step_from e r c g }
      | inr g ↦ let later = all_from e rs c g in record { from = later.from; is_in = later_in later.is_in; step = later.step }
    ]

pub from_all_in : (e : Equation) (rs : List Reached) (r c : Reached) → IsIn r rs → IsStep e r c → IsIn c (all_reached_by e rs)
unfolding all_reached_by
from_all_in e [] r c h step = elim h [ ]
from_all_in e (_ ∷ rs) r c first_in step = in_front_of c (reached_by e r) (all_reached_by e rs) (from_step e r c step)
from_all_in e (q ∷ rs) r c (later_in h) step = in_back_of c (reached_by e q) (all_reached_by e rs) (from_all_in e rs r c h step)

-- WHAT IS NEW is put behind
old_in_put : (rs : List Reached) (r c : Reached) (test : Bool) → IsIn r rs → IsIn r (if test then rs else rs ++ c ∷ [])
old_in_put rs r c true h = h
old_in_put rs r c false h = in_front_of r rs (c ∷ []) h

new_in_put : (rs : List Reached) (c : Reached) (test : Bool) → is_reached c.name c.by rs ≡ test → IsIn c (if test then rs else rs ++ c ∷ [])
new_in_put rs c true is = is_reached_in c.name c.by rs is
new_in_put rs c false is = in_back_of c rs (c ∷ []) first_in

pub in_with_old : (rs more : List Reached) (r : Reached) → IsIn r rs → IsIn r (with_new rs more)
unfolding with_new
in_with_old rs [] r h = h
in_with_old rs (c ∷ more) r h =
    in_with_old (if is_reached c.name c.by rs then rs else rs ++ c ∷ []) more r (old_in_put rs r c (is_reached c.name c.by rs) h)

pub in_with_new : (rs more : List Reached) (r : Reached) → IsIn r more → IsIn r (with_new rs more)
unfolding with_new
in_with_new rs [] r h = elim h [ ]
in_with_new rs (_ ∷ more) r first_in = in_with_old (if is_reached r.name r.by rs then rs else rs ++ r ∷ []) more r (new_in_put rs r (is_reached r.name r.by rs) refl)
in_with_new rs (c ∷ more) r (later_in h) = in_with_new (if is_reached c.name c.by rs then rs else rs ++ c ∷ []) more r h

pub only : (r c : Reached) → IsIn r (c ∷ []) → c ≡ r
only r _ first_in = refl
only r c (later_in h) = elim h [ ]

in_put_either : (rs : List Reached) (r c : Reached) (test : Bool) → IsIn r (if test then rs else rs ++ c ∷ []) → IsIn r rs ⊎ (c ≡ r)
in_put_either rs r c true h = inl h
in_put_either rs r c false h =
    elim (in_either_of r rs (c ∷ []) h) [ inl g ↦ inl g | inr g ↦ inr (only r c g) ]

pub with_either : (rs more : List Reached) (r : Reached) → IsIn r (with_new rs more) → IsIn r rs ⊎ IsIn r more
unfolding with_new
with_either rs [] r h = inl h
with_either rs (c ∷ more) r h =
    elim (with_either (if is_reached c.name c.by rs then rs else rs ++ c ∷ []) more r h) [
      | inl g ↦ elim (in_put_either rs r c (is_reached c.name c.by rs) g) [ inl old_in ↦ inl old_in | inr is ↦ inr (in_same c r (c ∷ more) first_in is) ]
      | inr g ↦ inr (later_in g)
    ]

-- EACH EQUATION once, and many times
pub in_further : (es : List Equation) (rs : List Reached) (r : Reached) → IsIn r rs → IsIn r (further es rs)
unfolding further
in_further [] rs r h = h
in_further (e ∷ es) rs r h = in_further es (with_new rs (all_reached_by e rs)) r (in_with_old rs (all_reached_by e rs) r h)

pub in_times : (n : ℕ) (es : List Equation) (rs : List Reached) (r : Reached) → IsIn r rs → IsIn r (further_times n es rs)
unfolding further_times
in_times zero es rs r h = h
in_times (suc n) es rs r h = in_times n es (further es rs) r (in_further es rs r h)

-- what each step keeps
pub further_keeps : (P : Reached → Type 0) (es : List Equation) → ((e : Equation) (r c : Reached) → IsIn e es → IsStep e r c → P r → P c)
    → (rs : List Reached) → ((r : Reached) → IsIn r rs → P r) → (r : Reached) → IsIn r (further es rs) → P r
unfolding further
further_keeps P [] step rs all r h = all r h
further_keeps P (e ∷ es) step rs all r h =
    further_keeps P es (λ f q c g. step f q c (later_in g)) (with_new rs (all_reached_by e rs))
    (λ q g. elim (with_either rs (all_reached_by e rs) q g) [
      | inl old_in ↦ all q old_in
      | inr new_in ↦ let from = all_from e rs q new_in in step e from.from q first_in from.step (all from.from from.is_in)
    ]) r h

pub times_keep : (P : Reached → Type 0) (es : List Equation) → ((e : Equation) (r c : Reached) → IsIn e es → IsStep e r c → P r → P c)
    → (n : ℕ) (rs : List Reached) → ((r : Reached) → IsIn r rs → P r) → (r : Reached) → IsIn r (further_times n es rs) → P r
unfolding further_times
times_keep P es step zero rs all r h = all r h
times_keep P es step (suc n) rs all r h = times_keep P es step n (further es rs) (further_keeps P es step rs all) r h

-- LINKS
pub link_in : (e : Equation) (es : List Equation) → IsIn e es → IsIn (link_by e) (links_by es)
unfolding links_by
link_in e [] h = elim h [ ]
link_in e (_ ∷ es) first_in = first_in
link_in e (f ∷ es) (later_in h) = later_in (link_in e es h)

head_or : (es : List Equation) (e : Equation) (l : Link Bytes) → IsIn l (link_by e ∷ links_by es)
    → (IsIn l (links_by es) → IsIn (record { one = l.one; other = l.other; by = l.by }) es) → IsIn (record { one = l.one; other = l.other; by = l.by }) (e ∷ es)
head_or es e _ first_in later = first_in
head_or es e l (later_in h) later = later_in (later h)

pub equation_in : (l : Link Bytes) (es : List Equation) → IsIn l (links_by es) → IsIn (record { one = l.one; other = l.other; by = l.by }) es
unfolding links_by
equation_in l [] h = elim h [ ]
equation_in l (e ∷ es) h = head_or es e l h (equation_in l es)

pub stands_step : (es : List Equation) (x : Bytes) (e : Equation) (r c : Reached) → IsIn e es → IsStep e r c → Stands (links_by es) x r.name r.by → Stands (links_by es) x c.name c.by
stands_step es x e r c in_es (ahead one other by) h = onward r.name c.name r.by c.by (link_by e) (link_in e es in_es) h one (sym other) by
stands_step es x e r c in_es (behind other one by) h = backward r.name c.name r.by c.by (link_by e) (link_in e es in_es) h other (sym one) by

-- WHAT IS REACHED STANDS SO
pub started : (P : Reached → Type 0) (x : Bytes) (d : ℤ) → P (record { name = x; by = d }) → (r : Reached) → IsIn r (record { name = x; by = d } ∷ []) → P r
started P x d h _ first_in = h
started P x d h r (later_in g) = elim g [ ]

pub times_stand : (es : List Equation) (x : Bytes) (n : ℕ) (r : Reached) → IsIn r (further_times n es (record { name = x; by = pos 0 } ∷ [])) → Stands (links_by es) x r.name r.by
times_stand es x n r h =
    times_keep (λ q. Stands (links_by es) x q.name q.by) es (λ e q c. stands_step es x e q c) n (record { name = x; by = pos 0 } ∷ [])
    (started (λ q. Stands (links_by es) x q.name q.by) x (pos 0) (stands_self (links_by es) x)) r h

pub reached_stands : (es : List Equation) (x : Bytes) (r : Reached) → IsIn r (reached_from es x) → Stands (links_by es) x r.name r.by
unfolding reached_from
reached_stands es x r h = times_stand es x (count es) r h
