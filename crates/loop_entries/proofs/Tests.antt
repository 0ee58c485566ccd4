-- Walks that test elements one after the other, until one fails.
use Rattle.std.proofs.Common.{◌≡◌, ℕ, suc, ◌+◌, ◌<◌, ◌≤◌, Bool, true, false, ◌&&◌, List, [], ◌∷◌, drop, drop-cons, get_or, length, refl, sym, ap, ◌∙◌, arith}
use Rattle.std.specs.List.{list_all}
use Rattle.std.proofs.lemmas.List.{drop_all}
use Rattle.loop_entries.specs.Walks.{all_from}

pub rest_is : {X : Type 0} (xs : List X) (i : ℕ) (x d : X) → i < length xs → x ≡ get_or xs i d → drop i xs ≡ x ∷ drop (i + 1) xs
rest_is xs i x d h is = drop-cons xs i d h ∙ ap (λ y. y ∷ drop (suc i) xs) (sym is) ∙ ap (λ n. x ∷ drop n xs) (let e : suc i ≡ i + 1 = omega arith in e)

both_true : (a b : Bool) → true ≡ a → (a && b) ≡ b
both_true a b h = ap (λ c. c && b) (sym h)

both_false : (a b : Bool) → false ≡ a → (a && b) ≡ false
both_false a b h = ap (λ c. c && b) (sym h)

module _ {X : Type 0} (test : ℕ → X → Bool) where
  step : (i : ℕ) (x : X) (xs : List X) → all_from test i (x ∷ xs) ≡ (test i x && all_from test (suc i) xs)
  unfolding all_from
  step i x xs = refl

  none : (i : ℕ) → all_from test i [] ≡ true
  unfolding all_from
  none i = refl

  here : (xs : List X) (i : ℕ) (x d : X) (whole : Bool) → i < length xs → x ≡ get_or xs i d → whole ≡ all_from test i (drop i xs) → whole ≡ (test i x && all_from test (i + 1) (drop (i + 1) xs))
  here xs i x d whole h is so_far =
      so_far ∙ ap (all_from test i) (rest_is xs i x d h is) ∙ step i x (drop (i + 1) xs) ∙ ap (λ n. test i x && all_from test n (drop (i + 1) xs)) (let e : suc i ≡ i + 1 = omega arith in e)

  pub test_more : (xs : List X) (i : ℕ) (x d : X) (whole : Bool) → i < length xs → x ≡ get_or xs i d → whole ≡ all_from test i (drop i xs) → true ≡ test i x
      → whole ≡ all_from test (i + 1) (drop (i + 1) xs)
  test_more xs i x d whole h is so_far passes = here xs i x d whole h is so_far ∙ both_true (test i x) (all_from test (i + 1) (drop (i + 1) xs)) passes

  pub test_fails : (xs : List X) (i : ℕ) (x d : X) (whole : Bool) → i < length xs → x ≡ get_or xs i d → whole ≡ all_from test i (drop i xs) → false ≡ test i x → false ≡ whole
  test_fails xs i x d whole h is so_far fails = sym (here xs i x d whole h is so_far ∙ both_false (test i x) (all_from test (i + 1) (drop (i + 1) xs)) fails)

  pub test_end : (xs : List X) (i : ℕ) (whole : Bool) → length xs ≤ i → whole ≡ all_from test i (drop i xs) → true ≡ whole
  test_end xs i whole h so_far = sym (so_far ∙ ap (all_from test i) (drop_all i xs h) ∙ none i)

-- the same where the places do not count
module _ {X : Type 0} (test : X → Bool) where
  each_here : (xs : List X) (i : ℕ) (x d : X) (whole : Bool) → i < length xs → x ≡ get_or xs i d → whole ≡ list_all test (drop i xs) → whole ≡ (test x && list_all test (drop (i + 1) xs))
  each_here xs i x d whole h is so_far = so_far ∙ ap (list_all test) (rest_is xs i x d h is)

  pub each_more : (xs : List X) (i : ℕ) (x d : X) (whole : Bool) → i < length xs → x ≡ get_or xs i d → whole ≡ list_all test (drop i xs) → true ≡ test x → whole ≡ list_all test (drop (i + 1) xs)
  each_more xs i x d whole h is so_far passes = each_here xs i x d whole h is so_far ∙ both_true (test x) (list_all test (drop (i + 1) xs)) passes

  pub each_fails : (xs : List X) (i : ℕ) (x d : X) (whole : Bool) → i < length xs → x ≡ get_or xs i d → whole ≡ list_all test (drop i xs) → false ≡ test x → false ≡ whole
  each_fails xs i x d whole h is so_far fails = sym (each_here xs i x d whole h is so_far ∙ both_false (test x) (list_all test (drop (i + 1) xs)) fails)

  pub each_end : (xs : List X) (i : ℕ) (whole : Bool) → length xs ≤ i → whole ≡ list_all test (drop i xs) → true ≡ whole
  each_end xs i whole h so_far = sym (so_far ∙ ap (list_all test) (drop_all i xs h))
