-- Fronts of lists, and sums of distances.
use Rattle.std.proofs.Common.{◌≡◌, ℕ, zero, suc, ◌+◌, ◌<◌, ◌≤◌, ◌^◌, nat_abs, Bool, false, List, [], ◌∷◌, ◌++◌, length, take, drop, drop-cons, get_or, inl, inr, arith, refl, sym, ap, subst, ◌∙◌}
use Rattle.std.proofs.lemmas.Bool.{cases_lt}
use Rattle.std.proofs.lemmas.List.{drop_all, take_all}
use Rattle.offset_classes.specs.f_tree.Setting.{IsIn, first_in, later_in}
use Rattle.offset_classes.specs.Standing.{links_of, reach}
use Rattle.offset_classes.specs.declared.nodes.Equation.{Equation}

pub in_at : {A : Type 0} (xs : List A) (i : ℕ) (x d : A) → i < length xs → x ≡ get_or xs i d → IsIn x xs
in_at [] i x d h is = absurd (let k : i < 0 = h in omega arith)
in_at (y ∷ xs) zero x d h is = subst (λ z. IsIn z (y ∷ xs)) (sym is) first_in
in_at (y ∷ xs) (suc i) x d h is = later_in (in_at xs i x d (let k : suc i < suc (length xs) = h in omega arith) is)

take_next : {A : Type 0} (xs : List A) (i : ℕ) (x d : A) → i < length xs → x ≡ get_or xs i d → take (suc i) xs ≡ take i xs ++ x ∷ []
take_next [] i x d h is = absurd (let k : i < 0 = h in omega arith)
take_next (y ∷ xs) zero x d h is = ap (λ z. z ∷ []) (sym is)
take_next (y ∷ xs) (suc i) x d h is = ap (λ zs. y ∷ zs) (take_next xs i x d (let k : suc i < suc (length xs) = h in omega arith) is)

pub taken : {A : Type 0} (xs : List A) (i : ℕ) (x d : A) → i < length xs → x ≡ get_or xs i d → take (i + 1) xs ≡ take i xs ++ x ∷ []
taken xs i x d h is = ap (λ n. take n xs) (let e : i + 1 ≡ suc i = omega arith in e) ∙ take_next xs i x d h is

pub taken_all : {A : Type 0} (xs : List A) (i : ℕ) → length xs ≤ i → take i xs ≡ xs
taken_all xs i h = take_all i xs h

pub in_taken : {A : Type 0} (xs : List A) (i : ℕ) (x : A) → IsIn x (take i xs) → IsIn x xs
in_taken [] zero x h = h
in_taken [] (suc i) x h = h
in_taken (y ∷ xs) zero x h = elim h [ ]
in_taken (_ ∷ xs) (suc i) x first_in = first_in
in_taken (y ∷ xs) (suc i) x (later_in h) = later_in (in_taken xs i x h)

-- what holds below a number, and of it, holds below the next
pub all_below : (test : ℕ → Bool) (i : ℕ) → ((y : ℕ) → y < i → test y ≡ false) → test i ≡ false → (y : ℕ) → y < i + 1 → test y ≡ false
all_below test i before now y h = elim (cases_lt y i) [
  | inl less ↦ before y less
  | inr above ↦ subst (λ z. test z ≡ false) (let e : i ≡ y = omega arith in e) now
]

all_left : {A : Type 0} (xs : List A) → drop 0 xs ≡ xs
all_left [] = refl
all_left (x ∷ xs) = refl

-- the sum of distances of what is left
reach_step : (e : Equation) (es : List Equation) → reach (links_of (e ∷ es)) ≡ nat_abs e.by + reach (links_of es)
unfolding links_of reach
reach_step e es = refl

pub reach_left : (es : List Equation) (i : ℕ) (e d : Equation) → i < length es → e ≡ get_or es i d
    → reach (links_of (drop i es)) ≡ nat_abs e.by + reach (links_of (drop (i + 1) es))
reach_left es i e d h is =
    ap (λ xs. reach (links_of xs)) (drop-cons es i d h ∙ ap (λ y. y ∷ drop (suc i) es) (sym is))
    ∙ reach_step e (drop (suc i) es)
    ∙ ap (λ n. nat_abs e.by + reach (links_of (drop n es))) (let k : suc i ≡ i + 1 = omega arith in k)

reach_nothing : reach (links_of []) ≡ 0
unfolding links_of reach
reach_nothing = refl

pub reach_none : (es : List Equation) (i : ℕ) → length es ≤ i → reach (links_of (drop i es)) ≡ 0
reach_none es i h = ap (λ xs. reach (links_of xs)) (drop_all i es h) ∙ reach_nothing

pub near_start : (es : List Equation) (room : ℕ) → room ≡ 2 ^ 61 → reach (links_of es) + room ≡ 2 ^ 61 + reach (links_of (drop 0 es))
near_start es room is = let k : reach (links_of (drop 0 es)) ≡ reach (links_of es) = ap (λ xs. reach (links_of xs)) (all_left es) in omega arith
