-- Whether one element of a list passes a test.
use Rattle.std.proofs.Common.{◌≡◌, refl, ap, ◌∙◌, ℕ, suc, ◌+◌, ◌<◌, ◌≤◌, Bool, true, false, ◌||◌, List, [], ◌∷◌, ◌++◌, length, drop, get_or, arith}
use Rattle.std.proofs.Math.Seq.{drop-cons}
use Rattle.std.proofs.lemmas.List.{at_drop_all}
use Rattle.c_tree.specs.Linking.{any_of}

pub or_along : (a b c : Bool) → (a || (b || c)) ≡ ((a || b) || c)
or_along true b c = refl
or_along false b c = refl

-- one of two lists
pub both : {A : Type 0} (test : A → Bool) (xs ys : List A) → any_of test (xs ++ ys) ≡ (any_of test xs || any_of test ys)
both test [] ys = refl
both test (x ∷ xs) ys = ap (λ b. test x || b) (both test xs ys) ∙ or_along (test x) (any_of test xs) (any_of test ys)

-- a list behind the elements before a place, by the element that stands there
pub at-drop : {X Y : Type 0} (F : List X → Y) (xs : List X) (i : ℕ) (d : X) → i < length xs → F (drop i xs) ≡ F (get_or xs i d ∷ drop (i + 1) xs)
at-drop F xs i d h = ap F (drop-cons xs i d h) ∙ ap (λ n. F (get_or xs i d ∷ drop n xs)) (let e : suc i ≡ i + 1 = omega arith in e)

pub at-end : {X Y : Type 0} (F : List X → Y) (xs : List X) (i : ℕ) → length xs ≤ i → F (drop i xs) ≡ F []
at-end F xs i h = at_drop_all F xs i h
